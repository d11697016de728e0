-- The flags of a CLEAR. Document 01, 'Which pixels': "CLEAR covers everything if any of its three flags is set, else nothing."
use Rattle.std.specs.Prelude.{Bool, not, ◌||◌, ℕ, eqb}
use Rattle.action.specs.declared.ink.Clear.{Clear}

-- a flag, or a mask of one bit
abbrev pub is_set : ℕ → Bool
is_set n = not (eqb n 0)

unfoldable pub is_any : Clear → Bool
is_any c = is_set c.colour || (is_set c.stencil || is_set c.tag)

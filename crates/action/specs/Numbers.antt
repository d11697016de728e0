-- The numbers that the guide's tables give to tests, stencil actions, blend factors and formats, and what each number names.
-- Document 01's table, row 12, refuses a word with a number that names nothing, and row 13 a format that is not drawn; here such a number gives the last case.
use Rattle.std.specs.Prelude.{ℕ, cond, List, [], ◌∷◌, eqb, get_or}
use Rattle.action.specs.declared.numbers.Test.{Test}
use Rattle.action.specs.declared.numbers.Test.TheVariants as t
use Rattle.action.specs.declared.numbers.StencilAction.{StencilAction}
use Rattle.action.specs.declared.numbers.StencilAction.TheVariants as s
use Rattle.action.specs.declared.numbers.Factor.{Factor}
use Rattle.action.specs.declared.numbers.Factor.TheVariants as f
use Rattle.action.specs.declared.numbers.Format.{Format}
use Rattle.action.specs.declared.numbers.Format.TheVariants as m

-- The guide, 4.4 ALPHA_FUNC: "NEVER 0" to "ALWAYS 7"; 4.42 STENCIL_FUNC refers to it.
unfoldable pub test_number : Test → ℕ
test_number t.Never = 0
test_number t.Less = 1
test_number t.LessOrEqual = 2
test_number t.Greater = 3
test_number t.GreaterOrEqual = 4
test_number t.Equal = 5
test_number t.NotEqual = 6
test_number t.Always = 7

abbrev pub tests : List Test
tests = t.Never ∷ t.Less ∷ t.LessOrEqual ∷ t.Greater ∷ t.GreaterOrEqual ∷ t.Equal ∷ t.NotEqual ∷ []

unfoldable pub test_of : ℕ → Test
test_of n = get_or tests n t.Always

-- 4.44 STENCIL_OP, table 17.
unfoldable pub stencil_action_number : StencilAction → ℕ
stencil_action_number s.Zero = 0
stencil_action_number s.Keep = 1
stencil_action_number s.Replace = 2
stencil_action_number s.Incr = 3
stencil_action_number s.Decr = 4
stencil_action_number s.Invert = 5

abbrev pub stencil_actions : List StencilAction
stencil_actions = s.Zero ∷ s.Keep ∷ s.Replace ∷ s.Incr ∷ s.Decr ∷ []

unfoldable pub stencil_action_of : ℕ → StencilAction
stencil_action_of n = get_or stencil_actions n s.Invert

-- 4.18 BLEND_FUNC, table 16.
unfoldable pub factor_number : Factor → ℕ
factor_number f.Zero = 0
factor_number f.One = 1
factor_number f.SrcAlpha = 2
factor_number f.DstAlpha = 3
factor_number f.OneMinusSrcAlpha = 4
factor_number f.OneMinusDstAlpha = 5

abbrev pub factors : List Factor
factors = f.Zero ∷ f.One ∷ f.SrcAlpha ∷ f.DstAlpha ∷ f.OneMinusSrcAlpha ∷ []

unfoldable pub factor_of : ℕ → Factor
factor_of n = get_or factors n f.OneMinusDstAlpha

-- 4.7 BITMAP_LAYOUT, table 10.
unfoldable pub format_number : Format → ℕ
format_number m.Argb1555 = 0
format_number m.L8 = 3
format_number m.Rgb565 = 7

unfoldable pub format_of : ℕ → Format
format_of n = cond (eqb n 0) m.Argb1555 (cond (eqb n 3) m.L8 m.Rgb565)

-- The engine, and what SAVE_CONTEXT, RESTORE_CONTEXT, CALL and RETURN do to it. Document 01, 'Words and state': 'Four contexts are kept. A fifth save
-- drops the earliest; a restore with none kept loads the starting values.' They stand oldest first; that they are the list of saves with the earliest
-- dropped is a theorem (proofs/Saves.antt).
use Rattle.std.specs.Prelude.{cond, [], ◌∷◌, ◌++◌, ℕ, ◌+◌, ◌-◌, eqb, ltb, drop, get_or, replicate, set, take}
use Rattle.engine.specs.declared.context.Context.{Context}
use Rattle.engine.specs.declared.kept.Engine.{Engine}
use Rattle.engine.specs.declared.kept.Kept.{Kept}
use Rattle.engine.specs.Changes.{with_context, with_calls}
use Rattle.engine.specs.Context.{starting}
use Rattle.engine.specs.Machine.{started}

unfoldable pub kept_with : Kept → Context → Kept
kept_with k c =
    cond (ltb k.count 4)
    (record { contexts = set k.contexts k.count c; count = k.count + 1 })
    (record { contexts = drop 1 k.contexts ++ (c ∷ []); count = k.count })

unfoldable pub newest : Kept → Context
newest k = cond (eqb k.count 0) starting (get_or k.contexts (k.count - 1) starting)

unfoldable pub dropped : Kept → Kept
dropped k = record { contexts = k.contexts; count = k.count - 1 }

abbrev pub begun : Engine
begun = record { now = started; kept = record { contexts = replicate 4 starting; count = 0 } }

-- SAVE_CONTEXT and RESTORE_CONTEXT. 'Primitive, open rectangle corner and bitmap handle settings are not part of a context.'
unfoldable pub pushed : Engine → Engine
pushed e = record { now = e.now; kept = kept_with e.kept e.now.context }

unfoldable pub popped : Engine → Engine
popped e = record { now = with_context e.now (newest e.kept); kept = dropped e.kept }

-- CALL and RETURN: the return address is the place after the CALL, newest first
unfoldable pub called : Engine → ℕ → Engine
called e to =
    record { now = with_calls e.now (take 4 (e.now.at ∷ e.now.calls)) (e.now.depth + 1) to; kept = e.kept }

unfoldable pub returned : Engine → Engine
returned e =
    record {
      now = with_calls e.now (drop 1 e.now.calls ++ (0 ∷ [])) (e.now.depth - 1) (get_or e.now.calls 0 0);
      kept = e.kept;
    }

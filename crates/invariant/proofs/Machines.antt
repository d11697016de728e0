-- A valid machine with one part changed is valid. Assumes nothing.
use mathlib.Core.Path.{refl}
use mathlib.Core.List.{◌∷◌}
use Prim.Native.Nat.{ℕ, ◌<◌}
use native.Mathlib.Omega.{arith}
use lib.IntN.{ℤ}
use lib.ListN.{length-take, length-drop, length-append}
use Rattle.units.specs.Units.{meant_translation, translation_at}
use Rattle.units.proofs.Meaning.{translation-of}
use Rattle.std.specs.Prelude.{Option}
use Rattle.action.specs.declared.shape.End.{End}
use Rattle.engine.specs.declared.context.Context.{Context}
use Rattle.engine.specs.declared.drawn.Primitive.{Primitive}
use Rattle.engine.specs.declared.kept.Engine.{Engine}
use Rattle.engine.specs.declared.machine.Machine.{Machine}
use Rattle.engine.specs.Changes.{with_context, with_place, with_corner}
use Rattle.engine.specs.Command.{beginning}
use Rattle.engine.specs.Context.{starting}
use Rattle.engine.specs.Kept.{called, returned}
use Rattle.words.specs.Fields.{InBits}
use Rattle.invariant.specs.State.{ValidContext, Aligned, ValidMachine}
use Rattle.words.proofs.Integers.{field-most}
use Rattle.invariant.proofs.Lists.{each_take, each-moved, each_at}

-- a translation of 17 bits, as it is kept
pub translation-in : (z : ℤ) → InBits 17 z → InBits 17 (meant_translation (translation_at z))
translation-in z h = rw (translation-of z (omega (arith, field-most 17 z h))).meant h

pub starting-valid : ValidContext starting
starting-valid = search (arith, translation-in)

module _ {m : Machine} (v : ValidMachine m) where
  pub with-context : {c : Context} → ValidContext c → ValidMachine (with_context m c)
  with-context h = search

  pub with-place : (to : ℕ) → Aligned to → ValidMachine (with_place m to)
  with-place to h = search

  pub with-corner : (c : Option End) → ValidMachine (with_corner m c)
  with-corner c = search

  pub with-primitive : (primitive : Option Primitive) → ValidMachine (beginning m primitive)
  with-primitive primitive = search

-- CALL and RETURN, of an engine's machine
module _ (x : Engine) (v : ValidMachine x.now) where
  pub with_call : (to : ℕ) → x.now.depth < 4 → Aligned to → ValidMachine (called x to).now
  unfolding called
  with_call to l h = record {
    context = v.context;
    place = h;
    returns = each_take Aligned 4 (x.now.at ∷ x.now.calls) (v.place, v.returns);
    calls = simp length-take (omega arith);
    depth = omega arith;
  }

  pub with-return : ValidMachine (returned x).now
  unfolding returned
  with-return = record {
    context = v.context;
    place = each_at Aligned x.now.calls 0 0 refl v.returns;
    returns = each-moved Aligned x.now.calls 0 refl v.returns;
    calls = simp (length-append, length-drop) (omega arith);
    depth = omega arith;
  }

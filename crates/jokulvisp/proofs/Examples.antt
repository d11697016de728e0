-- The examples of document 01 hold, by computation. Assumes nothing.
use mathlib.Core.Path.{refl}
use Rattle.engine.specs.Kept.{called, kept_with, newest, dropped, pushed, popped}
use Rattle.engine.specs.Command.{obeys}
use Rattle.engine.specs.Machine.{steps}
use Rattle.engine.specs.Run.{after, run}
use Rattle.pixel.specs.Blend.{product, blended}
use Rattle.runs.specs.Runs.{word_at, bytes_of}
use Rattle.units.specs.Units.{meant_pixels, floor16, sixteenth_at}
use Rattle.words.specs.Words.{checked, read_word}
use Rattle.jokulvisp.specs.Examples.{CheckedByHand}

pub checked-by-hand : CheckedByHand
unfolding checked read_word called obeys steps word_at bytes_of after run kept_with newest dropped pushed popped product blended meant_pixels floor16 sixteenth_at
checked-by-hand =
    record {
      one = refl;
      two = refl;
      three = refl;
      four = refl;
      five_accepted = refl;
      five_refused = refl;
      six = record { draws_nothing = refl; told = refl; placed = refl; fetched = refl };
      seven = record { draws_nothing = refl; told = refl; placed = refl; fetched = refl };
      eight = refl;
      nine = λ alpha stored. refl;
      ten = refl;
      eleven_first = refl;
      eleven_second = refl;
      eleven_third = refl;
      eleven_fourth = refl;
      eleven_fifth = refl;
      twelve_below = record { rounded = refl; kept = refl };
      twelve_none = record { rounded = refl; kept = refl };
      twelve_last = record { rounded = refl; kept = refl };
    }

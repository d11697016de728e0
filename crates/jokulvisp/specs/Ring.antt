-- What jv_ring_run, jv_ring_write and jv_ring_reset answer, and every byte that they leave. include/jokulvisp.h: the marks come back as four numbers,
-- beside the read mark as the chip shows it. What runs and host do is said in crates/ring/specs.
use Rattle.std.specs.Prelude.{◌≡◌, List, ℕ}
use Rattle.ring.specs.declared.marks.Answer.{Answer}
use Rattle.ring.specs.declared.marks.Marks.{Marks}
use Rattle.ring.specs.Command.{lent}
use Rattle.ring.specs.Host.{put, reset, host_answer}
use Rattle.ring.specs.Ring.{reported}
use Rattle.ring.specs.Run.{ran, run_answer}
use Rattle.jokulvisp.specs.declared.ringing.JvRing.{JvRing}

abbrev pub spread : Answer → JvRing
spread a =
    record {
      number = a.number;
      place = a.place;
      count = a.count;
      reported = reported a.marks;
      read = a.marks.read;
      write = a.marks.write;
      offset = a.marks.offset;
      fault = a.marks.fault;
    }

-- jv_ring_run, for every ring, RAM_DL, shown list and RAM_G and every four marks
pub record RingRunAnswer (ring list shown memory : List ℕ) (m : Marks) (answer : JvRing) (list' shown' memory' : List ℕ) : Type 0 where
  pub answered : answer ≡ spread (run_answer (ran ring m (lent list shown memory)))
  pub left : lent list' shown' memory' ≡ (ran ring m (lent list shown memory)).runs

-- jv_ring_write, for every ring, whatever bytes the host has, and every four marks
pub record RingWriteAnswer (ring words : List ℕ) (m : Marks) (answer : JvRing) (ring' : List ℕ) : Type 0 where
  pub answered : answer ≡ spread (host_answer (put ring words m))
  pub left : ring' ≡ (put ring words m).ring

unfoldable pub RingResetAnswer : JvRing → Type 0
RingResetAnswer answer = answer ≡ spread reset

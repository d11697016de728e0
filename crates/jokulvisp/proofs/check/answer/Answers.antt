use Rattle.jokulvisp.proofs.Checking.{admitted}
use Rattle.jokulvisp.proofs.check.answer.Goals as goal

pub invariant_of-screen : goal.invariant_of-screen
invariant_of-screen c =
    let m = admitted _ _ _ _ _ _ c.in-Ok.ensures in
    record { within = (m.list, m.memory) }

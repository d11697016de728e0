use mathlib.Core.Path.{◌∙◌, sym}
use Rattle.jokulvisp.proofs.Checking.{list-within, memory-within}
use Rattle.jokulvisp.proofs.repainting.answer.Goals as goal

pub invariant_of-old : goal.invariant_of-old
invariant_of-old c =
    record { within = (list-within _ (sym c.is_list.ensures ∙ c.if-not-is_list.false), memory-within _ (sym c.is_memory.ensures ∙ c.if-not-is_memory.false)) }

pub invariant_of-new : goal.invariant_of-new
invariant_of-new c =
    record { within = (list-within _ (sym c.is_list-2.ensures ∙ c.if-not-is_list-2.false), memory-within _ (sym c.is_memory.ensures ∙ c.if-not-is_memory.false)) }

-- `memory_start` meets its contract: the two arms are the two cases of the rule.
use Prim.Native.Nat.{◌+◌}
use mathlib.Core.List.{List}
use mathlib.Core.Path.{◌≡◌, refl, ◌∙◌}
use native.Mathlib.Omega.{arith}
use Rattle.std.proofs.lemmas.Grind.{common_steps}
use Rattle.rules.specs.Model.{Colour, Instance, Schedule}
use Rattle.model.specs.Layout.{last_tick}
use Rattle.staircase.specs.declared.Step.{Step}
use Rattle.staircase.specs.Steps.{as_steps}
use Rattle.staircase.specs.Stairs.{HoldsStairs}
use Rattle.staircase.proofs.StairsLaws.{holds_read}
use Rattle.starts.specs.Kept.{TicksWithin}
use Rattle.starts.proofs.EarliestStartLaws.{memory-aware, memory-plain}
use Rattle.starts.proofs.memory.memory_start.Goals as goal

-- what holds of the steps lent holds of those handed on
within : {xs now : List Step} → TicksWithin (as_steps xs) → now ≡ xs → TicksWithin (as_steps now)
within t e = rw e t

held : {I : Instance} {P : Schedule} {c : Colour} {xs now : List Step} → HoldsStairs I P c (as_steps xs) → now ≡ xs → HoldsStairs I P c (as_steps now)
held h e = rw e h

pub both_from-found-requires : goal.both_from-found-requires
both_from-found-requires c = omega arith

pub latest-requires : goal.latest-requires
latest-requires c =
    let t = c.both_from-found.ensures.by_index last_tick (within c.requires.ticks_within (grind (arith, common_steps))).last in
    record {
      running_bound = t.0;
      moving_bound = t.1;
      delay_bound = c.requires.demand_bounds.0.longest;
    }

pub returns-in-Aware : goal.returns-in-Aware
returns-in-Aware c =
    let a = c.args in record {
      result_value = (λ I Q i x W p h d r. memory-aware I Q.schedule x a.memory i d c.in-Aware.is
          c.both_from-found.result.third c.both_from-found.result.fourth c.latest.result r refl
          (c.both_from-found.ensures.third_value ∙ holds_read W p (held h (grind (arith, common_steps))) (a.demand.incoming + a.room))
          (c.both_from-found.ensures.fourth_value ∙ holds_read W p (held h (grind (arith, common_steps))) a.demand.incoming) c.latest.ensures.result_value);
      result_bound = c.latest.ensures.result_bound;
    }

pub returns-in-Plain : goal.returns-in-Plain
returns-in-Plain c =
    let a = c.args in record {
      result_value = (λ I Q i x W p h d r. memory-plain I Q.schedule x a.memory i d c.in-Plain.is);
      result_bound = omega arith;
    }

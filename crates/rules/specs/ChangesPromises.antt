-- What Order 8 promises: that a memory's changes, taken in time order, give the peaks and the first instants over a limit that the hold rule gives.
use Rattle.std.specs.Prelude.{ℕ, ◌<◌, List, ◌≡◌, ◌↔◌}
use Rattle.std.proofs.Math.Option.{some}
use Rattle.rules.specs.Model.{Colour, blue, red, Instance, Schedule}
use Rattle.rules.specs.Residency.{held}
use Rattle.rules.specs.Validity.{Claim, Complete, AllOnTime, peak, judge}
use Rattle.rules.specs.Promises.{WellFormed, First}
use Rattle.rules.specs.Changes.{Change, InTime, greatest_total, first_over, judge_by_changes}

-- both ways give the same peak, and for any limit the same first instant over it
pub record SameTotals (I : Instance) (P : Schedule) (c : Colour) (xs : List Change) : Type 0 where
  pub same_peak : greatest_total xs ≡ peak I P c
  pub same_first : (limit t : ℕ) → (first_over limit xs ≡ some t) ↔ First (λ u. limit < held I P c u) t

-- on a complete timetable free of 16 (`AllOnTime`), for every such list of either memory's changes.
-- Not: rises before falls at one tick; the first change of all for the first instant over a limit. Alone it says nothing where no list is in time order;
-- OrderLaw rules that out
abbrev pub ChangesLaw : Type 0
ChangesLaw =
    (I : Instance) → WellFormed I → (P : Schedule) → Complete I P → AllOnTime I P
    → (c : Colour) (xs : List Change) → InTime I P c xs → SameTotals I P c xs

-- any memory's changes can be put into time order
abbrev pub OrderLaw : Type 0
OrderLaw = (I : Instance) (P : Schedule) (c : Colour) → (xs : List Change) × InTime I P c xs

-- so the marker that adds by changes gives the verdict, on any complete timetable: where 15 or 16 applies no change is looked at.
-- Not: 17 at the first change of all; the peak of one memory for both
abbrev pub JudgeByChangesLaw : Type 0
JudgeByChangesLaw =
    (I : Instance) → WellFormed I → (P : Schedule) → Complete I P
    → (claim : Claim) (xs ys : List Change) → InTime I P blue xs → InTime I P red ys → judge_by_changes I P claim xs ys ≡ judge I P claim

-- What reading a sheet gives, as the rules have it.
use Rattle.std.specs.Prelude.{◌≡◌, Result, Ok, Err}
use Rattle.rules.specs.InstanceText as Text
use Rattle.rules.specs.Refusals.{as_fault}
use Rattle.rules.specs.declared.Board.{Board}
use Rattle.rules.specs.declared.refusal.Refusal.{Refusal}
use Rattle.rules.specs.declared.refusal.Refusal.TheVariants.{Sheet}
use Rattle.model.specs.declared.job.Job.{Job}
use Rattle.model.specs.Jobs.{instance_in}
use Rattle.model.specs.Layout.{instance_with}
use Rattle.model.specs.declared.layout.Numbers.{Numbers}

-- a refusal is one of the sheet
abbrev pub IsRefused : Refusal → Text.InstanceRead → Type 0
IsRefused (Sheet w k) r = r ≡ Text.refused (as_fault w) k
IsRefused e r = ⊥

-- an answer, with the numbers that the reader left
abbrev pub IsRead : Result Board Refusal → Numbers → Text.InstanceRead → Type 0
IsRead (Ok b) xs r = r ≡ Text.accepted (instance_with b xs)
IsRead (Err e) xs r = IsRefused e r

-- or the job itself
abbrev pub IsJob : Result Job Refusal → Text.InstanceRead → Type 0
IsJob (Ok j) r = r ≡ Text.accepted (instance_in j)
IsJob (Err e) r = IsRefused e r

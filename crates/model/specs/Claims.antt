-- The code's claim, as the rules have it.
use Rattle.rules.specs.Validity as Rules
use Rattle.model.specs.declared.claim.Claim.{Claim}

abbrev pub as_claim : Claim → Rules.Claim
as_claim c = record { span = c.span; blue_peak = c.blue_peak; red_peak = c.red_peak }

-- The code's verdict, as the rules have it.
use Rattle.std.specs.Prelude.{Result, Ok, Err}
use Rattle.rules.specs.Validity as Rules
use Rattle.rules.specs.declared.refusal.Refusal.{Refusal}
use Rattle.rules.specs.Refusals.{refusal_number, refusal_place}
use Rattle.model.specs.declared.claim.Claim.{Claim}
use Rattle.model.specs.Claims.{as_claim}

abbrev pub as_verdict : Result Claim Refusal → Rules.Verdict
as_verdict (Ok c) = Rules.accepted_with (as_claim c)
as_verdict (Err r) = Rules.refused_by (refusal_number r) (refusal_place r)

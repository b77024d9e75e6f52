-- The code's answer, as the rules have it.
use Rattle.std.specs.Prelude.{ℕ, List, Result, Ok, Err}
use Rattle.rules.specs.Calls as Rules
use Rattle.rules.specs.declared.refusal.Refusal.{Refusal}
use Rattle.rules.specs.Refusals.{refusal_number, refusal_place}
use Rattle.plan_text.specs.declared.Answer.{Answer}

-- number and place of a call that writes: on success 0 and the bytes written
abbrev pub number_of : Result ℕ Refusal → ℕ
number_of (Ok n) = 0
number_of (Err r) = refusal_number r

abbrev pub place_of : Result ℕ Refusal → ℕ
place_of (Ok n) = n
place_of (Err r) = refusal_place r

-- with the trials, and the bytes that the lent buffer then holds
abbrev pub answer_of : Result ℕ Refusal → ℕ → List ℕ → Rules.Answer
answer_of w trials buffer = record { number = number_of w; place = place_of w; trials = trials; buffer = buffer }

abbrev pub as_answer : Answer → List ℕ → Rules.Answer
as_answer a buffer = answer_of a.written a.trials buffer

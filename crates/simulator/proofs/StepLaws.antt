-- What the next step does, and the walk's answer by it: the laws of the walk in `rules`, for what the code keeps.
use Prim.Native.Nat.{ℕ, zero, suc, ◌+◌, ◌≤◌}
use mathlib.Core.List.{List}
use mathlib.Core.Logic.{◌≢◌}
use mathlib.Core.Path.{◌≡◌, refl, sym, ◌∙◌, ap}
use native.Mathlib.Numerals.{add-one}
use native.Mathlib.Omega.{arith}
use lib.Dec.{ltb}
use borrow.Author.Tests.{ltb-true, ltb-false, lt-ltb}
use mathlib.Core.Bool.{Bool, true, false}
use Rattle.rules.specs.Model.{Instance, Schedule}
use Rattle.rules.specs.Validity.{Complete, makespan}
use Rattle.rules.specs.Promises.{WellFormed}
use Rattle.rules.specs.Simulation.{state_at, state_after, is_turn, fault_at, Progress, steps_left, stopped, ended, Simulation, watch}
use Rattle.rules.specs.SimulationPromises.{Faulty}
use Rattle.rules.proofs.TickFaultLaws.{is-faulty, faulty-is}
use Rattle.rules.proofs.WalkLaws.{Walked, walk_begins, walk_steps, walk-left, walk-stops, walk_ends}
use Rattle.simulator.specs.declared.answer.TickFault.{TickFault}
use Rattle.simulator.specs.declared.answer.TickFault.TheVariants.{Overlap, Early, OverLimit}
use Rattle.simulator.specs.Answers.{fault_number}
use Rattle.simulator.specs.Turns.{SoonestAt}
use Rattle.simulator.specs.Walks.{NextTurn, NoTurn, Ends, at_fault, at_end, not_wanted, state_by}

-- ---- what the next step does

module _ (I : Instance) (P : Schedule) {from : ℕ} where
  next-turn : (t : ℕ) → SoonestAt (is_turn I P) from t → NextTurn I P from t
  next-turn t s = record {
    first = record { holds = (s.after, s.holds); least = λ m x. s.least m x.0 x.1 };
    bound = s.within;
  }

  module _ {wanted : Bool} where
    pub ahead-end : NoTurn I P from → {span : ℕ} → span ≡ makespan I P → Ends I P from wanted (ended span)
    ahead-end none z = at_end none z

    module _ (t : ℕ) (s : SoonestAt (is_turn I P) from t) where
      pub ahead-left : wanted ≡ false → Ends I P from wanted steps_left
      ahead-left w = not_wanted t w (next-turn t s)

      pub ahead-fault : wanted ≡ true → {f : ℕ} → f ≡ fault_at I P t → 1 ≤ f → Ends I P from wanted (stopped f t)
      ahead-fault w e d = at_fault t w (next-turn t s) e d

-- a fault has a number
pub some-fault : (f : TickFault) → 1 ≤ fault_number f
some-fault Overlap = omega arith
some-fault Early = omega arith
some-fault OverLimit = omega arith

-- ---- the walk

clean : (I : Instance) (P : Schedule) (t : ℕ) → fault_at I P t ≡ 0 → Faulty I P t → ⊥
clean I P t e f = omega (arith, ltb-true 0 (fault_at I P t) (faulty-is I P t f))

is-fault : (I : Instance) (P : Schedule) (t n : ℕ) → n ≡ fault_at I P t → 1 ≤ n → Faulty I P t
is-fault I P t n e l = is-faulty I P t (lt-ltb 0 (fault_at I P t) (omega arith))

-- so many steps are made, the last onto tick `time`; the next is looked for from tick `from` on
pub record Reached (I : Instance) (P : Schedule) (made from time : ℕ) : Type 0 where
  pub walked : Walked I P from made
  pub state : state_by I P made time ≡ state_after I P made

pub begins : (I : Instance) (P : Schedule) (time : ℕ) → Reached I P 0 0 time
begins I P time = record { walked = walk_begins I P; state = refl }

module _ (I : Instance) (W : WellFormed I) (P : Schedule) (C : Complete I P) {made from time : ℕ} (r : Reached I P made from time) where
  pub goes : {t : ℕ} → NextTurn I P from t × (fault_at I P t ≡ 0) → Reached I P (made + 1) (t + 1) t
  goes {t} x =
      let y = walk_steps I W P C from made r.walked t x.0.first (clean I P t x.1) in
      rw (add-one made, add-one t) (record { walked = y.0; state = sym y.1 })

  abbrev answer : Progress → Simulation
  answer q = record { progress = q; made = made; state = state_by I P made time }

  -- the answer, with the state of the steps made
  told : {q p : Progress} → q ≡ p → answer q ≡ record { progress = p; made = made; state = state_after I P made }
  told g = λ i. record { progress = g i; made = made; state = r.state i }

  ends : {q : Progress} (wanted : ℕ) → made ≤ wanted → Ends I P from (ltb made wanted) q → answer q ≡ watch I P wanted
  ends wanted l (at_fault {n} t w x e h) =
      told (ap (λ m. stopped m t) e)
      ∙ sym (walk-stops I W P C from made r.walked t wanted x.first (is-fault I P t n e h) (ltb-true made wanted w))
  ends wanted l (at_end none z) = told (ap ended z) ∙ sym (walk_ends I W P C from made r.walked wanted none l)
  ends wanted l (not_wanted t w x) =
      let all : made ≡ wanted = omega (arith, ltb-false made wanted w) in
      told refl ∙ sym (walk-left I W P C from made r.walked t x.first) ∙ ap (watch I P) all

  pub walk-over : {q : Progress} {a : Simulation} → a ≡ record { progress = q; made = made; state = state_by I P made time } → (wanted : ℕ) → made ≤ wanted
      → Ends I P from (ltb made wanted) q → a ≡ watch I P wanted
  walk-over e wanted l x = e ∙ ends wanted l x

-- ---- the answer's state

module _ (I : Instance) (P : Schedule) (p : Progress) (t : ℕ) where
  pub stepped : (n : ℕ) → n ≢ 0 → {rs cs : List ℕ} → rs ≡ (state_at I P t).running → cs ≡ (state_at I P t).contents
      → ◌≡◌ {A = Simulation} (record { progress = p; made = n; state = record { time = t; running = rs; contents = cs } })
      (record { progress = p; made = n; state = state_by I P n t })
  unfolding state_at
  stepped zero d u v = absurd (d refl)
  stepped (suc n) d u v = λ i. record { progress = p; made = suc n; state = record { time = t; running = u i; contents = v i } }

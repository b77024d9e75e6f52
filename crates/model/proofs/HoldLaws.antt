-- What the accessors read of a file's two runs, or of a task's run, as the rules have it: the hold of the file, and of the working memory.
use Rattle.std.proofs.Common.{ℕ, ◌≡◌, ◌∙◌, sym, ap, refl, Bool, true, false, ◌&&◌, ltb, Option, Some, None, arith}
use denote.Enum.Bare.{sameb}
use Rattle.rules.specs.Model.{Colour as RulesColour, same_colour, Instance, file_at, Schedule, is_placed, run_at, colour_of, move_at, move_end, start_at, release_at, maker_run, reader_run, work_at}
use Rattle.rules.specs.Residency.{never, during, open_hold, closed_hold, hold_of, work_by, work_of}
use Rattle.rules.proofs.HoldLaws.{hold-none, hold-open, hold-closed}
use Rattle.rules.proofs.Tests.{and_no}
use borrow.Author.Tests.{lt-ltb, le-ltb}
use Rattle.model.specs.contracts.colour.Colour.{the_type}
use Rattle.model.specs.declared.colour.Colour.{Colour}
use Rattle.model.specs.declared.colour.Colour.TheVariants.{Blue, Red}
use Rattle.model.specs.declared.residency.FileTimes.{FileTimes}
use Rattle.model.specs.declared.residency.Transfer.{Transfer}
use Rattle.model.specs.Colours.{as_colour}
use Rattle.model.specs.Holds.{TransferOf, TimesOf, closed_with, closed_by}

-- the derived test of two colours is the rules'
pub same-colour : (a b : Colour) → sameb the_type a b ≡ same_colour (as_colour a) (as_colour b)
same-colour Blue Blue = refl
same-colour Blue Red = refl
same-colour Red Blue = refl
same-colour Red Red = refl

-- in which colour's memory a run is, by the test that the code makes
pub here_from : (a b : Colour) {x : RulesColour} {t : Bool} → as_colour a ≡ x → t ≡ sameb the_type a b → t ≡ same_colour x (as_colour b)
here_from a b e q = q ∙ same-colour a b ∙ ap (λ (x : RulesColour). same_colour x (as_colour b)) e

-- the hold of a file that stays does not look at a move
closed-still : (here : Bool) (begun v w x y released : ℕ) → closed_hold false here begun v w released ≡ closed_hold false here begun x y released
closed-still true begun v w x y released = refl
closed-still false begun v w x y released = refl

-- ---- the hold of a file, by what is read of its maker, its reader and its times
module _ (I : Instance) (P : Schedule) (c : RulesColour) (k : ℕ) {m : ℕ} (maker : m ≡ (file_at I k).maker) where
  pub hold-never : is_placed (run_at P m) ≡ false → never ≡ hold_of I P c k
  hold-never p = sym (hold-none I (file_at I k) (maker_run I P k) (reader_run I P k) (move_at P k) c (rw maker at p))

  module _ {d : ℕ} (reader : d ≡ (file_at I k).reader) (p : is_placed (run_at P m) ≡ true) {here : Bool} (e : here ≡ same_colour (colour_of I (run_at P m)) c) where
    pub hold-since : is_placed (run_at P d) ≡ false → {s : ℕ} → s ≡ start_at P m → open_hold here s ≡ hold_of I P c k
    hold-since q g = rw (e, g, maker) (sym (hold-open I (file_at I k) (maker_run I P k) (reader_run I P k) (move_at P k) c (rw maker at p) (rw reader at q)))

    closed-is : (o : Option Transfer) (begun released : ℕ) → is_placed (run_at P d) ≡ true → TransferOf I P k o → begun ≡ start_at P (file_at I k).maker
        → released ≡ release_at I P (file_at I k).reader → closed_with o here begun released ≡ hold_of I P c k
    closed-is (Some m) begun released q t b r =
        rw (e, b, r, maker, t.departs, t.arrives, sym t.moves) (sym (hold-closed I (file_at I k) (maker_run I P k) (reader_run I P k) (move_at P k) c (rw maker at p) (rw reader at q)))
    closed-is None begun released q t b r =
        closed-still here begun 0 0 (move_at P k) (move_end I P k) released
        ∙ rw (e, b, r, maker, sym t) (sym (hold-closed I (file_at I k) (maker_run I P k) (reader_run I P k) (move_at P k) c (rw maker at p) (rw reader at q)))

    pub hold-during : (t : FileTimes) → is_placed (run_at P d) ≡ true → TimesOf I P k t → closed_by t here ≡ hold_of I P c k
    hold-during t q times = closed-is t.transfer t.begun t.released q times.transfer times.begun times.released

-- ---- the hold of a task's working memory, by its W and by whether it runs on the colour
module _ (I : Instance) (P : Schedule) (c : RulesColour) (i : ℕ) where
  abbrev runs_on : Bool
  runs_on = is_placed (run_at P i) && same_colour (colour_of I (run_at P i)) c

  pub work-idle : {w : ℕ} → w ≡ work_at I i → w ≡ 0 → never ≡ work_of I P c i
  unfolding work_by
  work-idle g z = let none : ltb 0 (work_at I i) ≡ false = le-ltb 0 (work_at I i) (omega (arith, g, z)) in rw (none, and_no runs_on)

  pub work-elsewhere : runs_on ≡ false → never ≡ work_of I P c i
  unfolding work_by
  work-elsewhere e = rw e

  pub work-during : {w s r : ℕ} → w ≡ work_at I i → (w ≡ 0 → ⊥) → runs_on ≡ true → s ≡ start_at P i → r ≡ release_at I P i → during s r ≡ work_of I P c i
  unfolding work_by
  work-during g z e s r = let some : ltb 0 (work_at I i) ≡ true = lt-ltb 0 (work_at I i) (omega (arith, g, z)) in rw (e, some, s, r)

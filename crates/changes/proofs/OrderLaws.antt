-- A memory's changes, packed and sorted, are its changes in time order.
use Prim.Native.Nat.{ℕ, suc, ◌<◌}
use mathlib.Core.Bool.{true, cond}
use mathlib.Core.List.{List, []}
use mathlib.Core.Path.{◌≡◌, sym, ◌∙◌, ap}
use native.Mathlib.Omega.{arith}
use lib.ListN.{length, get_or}
use Rattle.std.proofs.lemmas.List.{length-map, get_or-map}
use lib.Seq.{ext_get_or}
use Rattle.rules.specs.Count.{sum_over, list_below}
use Rattle.rules.specs.Model.{Colour, Instance, Schedule}
use Rattle.rules.specs.Changes.{residencies, Change, changes, change_at, same_change, InOrder, InTime}
use Rattle.rules.proofs.CountLaws.{length-list_below, get_or-list_below}
use Rattle.rules.proofs.ChangeLaws.{sum-list}
use Rattle.model.specs.declared.job.Job.{Job}
use Rattle.model.specs.Layout.{Entries}
use Rattle.model.specs.Jobs.{instance_in, schedule_by}
use Rattle.model.proofs.JobLaws.{files-in, tasks-in}
use Rattle.sorting.specs.Sorted.{Sorted}
use Rattle.changes.specs.Packed.{unpacked}
use Rattle.model.specs.Residencies.{file_residency, work_residency}
use Rattle.changes.specs.Listed.{listed, Listing}
use Rattle.changes.proofs.PackedLaws.{key-unpacked}
use Rattle.changes.proofs.ListLaws.{listing-both}

module _ (xs : List ℕ) where
  pub listed-length : length (listed xs) ≡ length xs
  listed-length = length-map xs unpacked

  pub listed_at : (k : ℕ) → k < length xs → change_at (listed xs) k ≡ unpacked (get_or xs k 0)
  listed_at k l = get_or-map unpacked xs k 0 (record { tick = 0; rises = true; amount = 0 }) l

  -- the same by index
  listed-below : listed xs ≡ list_below (length xs) (λ k. unpacked (get_or xs k 0))
  listed-below =
      let empty : Change = record { tick = 0; rises = true; amount = 0 } in
      ext_get_or empty (listed xs) (list_below (length xs) (λ k. unpacked (get_or xs k 0)))
      (listed-length ∙ sym (length-list_below (length xs) (λ k. unpacked (get_or xs k 0))))
      (λ k h. let l : k < length xs = omega (arith, listed-length) in listed_at k l ∙ sym (get_or-list_below (length xs) (λ k. unpacked (get_or xs k 0)) k empty l))

module _ {xs ys : List ℕ} (same_length : length ys ≡ length xs) (s : Sorted (length xs) xs ys) where
  same-sums : (f : Change → ℕ) → sum_over f (listed xs) ≡ sum_over f (listed ys)
  same-sums f =
      let n = length xs in
      rw (listed-below xs, listed-below ys, same_length)
      (sum-list n (λ k. unpacked (get_or xs k 0)) f ∙ s.same (λ p. f (unpacked p)) ∙ sym (sum-list n (λ k. unpacked (get_or ys k 0)) f))

  in_order : InOrder (listed ys)
  in_order k l =
      let z = listed-length ys in
      rw (listed_at ys k (omega arith), listed_at ys (suc k) (omega arith), key-unpacked (get_or ys k 0), key-unpacked (get_or ys (suc k) 0))
      (s.order k (omega arith))

  pub in-time : (I : Instance) (P : Schedule) (c : Colour) → listed xs ≡ changes I P c → InTime I P c (listed ys)
  in-time I P c e = record {
    same = λ x. let f : Change → ℕ = λ y. cond (same_change x y) 1 0 in ap (sum_over f) (sym e) ∙ same-sums f;
    order = in_order;
  }

-- ---- those of the files and then those of the working memory are all

module _ (j : Job) (L : Entries) (c : Colour) where
  abbrev I : Instance
  I = instance_in j

  abbrev P : Schedule
  P = schedule_by j L

  all_listed : {ys zs : List ℕ} → Listing [] (file_residency I P c) (length j.files.now) ys → Listing ys (work_residency I P c) (length j.tasks.now) zs
      → listed zs ≡ changes I P c
  unfolding residencies
  all_listed f w = listing-both (file_residency I P c) (work_residency I P c) (length j.files.now) (length j.tasks.now) f w ∙ rw (files-in j, tasks-in j)

  pub sorted-in-time : {ys zs us : List ℕ} → Listing [] (file_residency I P c) (length j.files.now) ys → Listing ys (work_residency I P c) (length j.tasks.now) zs
      → length us ≡ length zs → Sorted (length zs) zs us → InTime I P c (listed us)
  sorted-in-time f w e s = in-time e s I P c (all_listed f w)

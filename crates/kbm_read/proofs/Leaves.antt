-- What an accepted read leaves in the table: the entries that are given, and the added ones. Assumes nothing.
use mathlib.Core.Path.{◌≡◌, sym, ◌∙◌, ap}
use mathlib.Core.List.{List, ◌++◌}
use Prim.Native.Nat.{ℕ, ◌-◌, ◌≤◌}
use native.Mathlib.Omega.{arith}
use lib.IntN.{ℤ}
use lib.ListN.{length, drop, length-append, length-drop}
use Rattle.base.specs.Said.{gives}
use Rattle.base.specs.Tables.{over, after}
use Rattle.kbm.proofs.Table.{length_numbers}
use Rattle.kbm.specs.Table.{numbers_of}
use Rattle.kbm.specs.declared.Kbm.{Kbm}
use Rattle.kbm_read.specs.Language.{blanks}
use Rattle.kbm_read.specs.Reader.{read_of, given_in, entries_in, padded}
use Rattle.kbm_read.proofs.Language.{accepted, given_in_law}
use Rattle.kbm_read.proofs.Fills.{numbers_append, pad_over}

-- an accepted text gives at most as many entries as its size, and there is room for that
pub read_counts : (room : ℕ) (text : List ℕ) (x : Kbm) → read_of room text ≡ gives x → (length (given_in text) ≤ x.count) × (x.count ≤ room)
read_counts room text x e =
    let a = accepted room text x e in
    let t = a.0 in
    (omega (arith, ap length (given_in_law t), t.consistent, ap (λ k. k.count) t.mapping), a.1)

module _ (text : List ℕ) (old : List ℤ) {x : Kbm} (e : read_of (length old) text ≡ gives x) where
  -- the second pass has a place for each entry, and so has the padding
  pub given_fits : length (given_in text) ≤ length old
  given_fits = let c = read_counts (length old) text x e in omega (arith, c.0, c.1)

  pub size_fits : {mid : List ℤ} → mid ≡ over old (numbers_of (given_in text)) → x.count ≤ length mid
  size_fits q =
      let c = read_counts (length old) text x e in
      let xs = numbers_of (given_in text) in
      omega (arith, c.0, c.1, length_numbers (given_in text), ap length q, length-append xs (drop (length xs) old), length-drop (length xs) old)

  pub read_leaves : {n : ℕ} {mid last : List ℤ} → n ≡ length (given_in text) → mid ≡ over old (numbers_of (given_in text)) → last ≡ padded (x.count - n) n mid →
      last ≡ after (read_of (length old) text) (λ k. numbers_of (entries_in k.count text)) old
  read_leaves {n} {mid} {last} p q r =
      let given = given_in text in
      let xs = numbers_of given in
      let c = read_counts (length old) text x e in
      let l = length_numbers given in
      let more = x.count - length given in
      let i : n ≡ length xs = p ∙ sym l in
      let m : x.count - n ≡ more = ap (λ k. x.count - k) p in
      let s : padded (x.count - n) n mid ≡ over old (xs ++ numbers_of (blanks more)) =
      rw (m, q, i) (pad_over old xs more (omega (arith, l, c.0, c.1))) in
      rw e (r ∙ s ∙ ap (over old) (sym (numbers_append given (blanks more))))

-- WHAT AN ACCEPTED READ LEAVES in the table passes every later call's test of it, and is read back as the mapping's entries.
-- Assumes nothing.
use Rattle.std.specs.Prelude.{Option}
use mathlib.Core.Path.{◌≡◌, sym, ◌∙◌, ap}
use mathlib.Core.Bool.{true}
use mathlib.Core.List.{List, [], ◌∷◌, ◌++◌}
use Prim.Native.Nat.{ℕ, zero, suc, ◌-◌, ◌^◌, ◌≤◌}
use native.Mathlib.Omega.{arith}
use lib.Dec.{leb, lit≤}
use lib.IntN.{ℤ}
use lib.ListN.{length, take, drop, length-append}
use lib.Seq.{take-append-le, take-length}
use borrow.Author.Tests.{le-leb}
use Rattle.base.specs.Said.{gives}
use Rattle.base.specs.Tables.{over}
use Rattle.kbm.proofs.Table.{length_numbers, numbers_usable, numbers_back}
use Rattle.kbm.specs.Table.{numbers_of, IsI16, AreI16, is_table, table_of}
use Rattle.kbm.specs.declared.Kbm.{Kbm}
use Rattle.integers.proofs.AtLine.{typed_int}
use Rattle.kbm_read.specs.Language.{EntryText, Entries, blanks, size_of, MappingText}
use Rattle.kbm_read.specs.Reader.{read_of, entries_in, after_read}
use Rattle.kbm_read.proofs.Ends.{length_added}
use Rattle.kbm_read.proofs.Language.{accepted, accepts}

-- so a degree is of 16 bits
typed_text : (t : List ℕ) (e : (Option ℤ)) → EntryText t e → IsI16 e
typed_text t e (EntryText.small p) = tt
typed_text t e (EntryText.large p) = tt
typed_text t e (EntryText.degree z i) = typed_int (2 ^ 15) 32767 (lit≤ tt) i

pub typed_all : (ts : List (List ℕ)) (es : List (Option ℤ)) → Entries ts es → AreI16 es
typed_all [] [] x = tt
typed_all [] (e ∷ es) x = absurd x
typed_all (t ∷ ts) [] x = absurd x
typed_all (t ∷ ts) (e ∷ es) x = (typed_text t e x.0, typed_all ts es x.1)

typed_blanks : (n : ℕ) → AreI16 (blanks n)
unfolding blanks
typed_blanks zero = tt
typed_blanks (suc n) = (tt, typed_blanks n)

typed_both : (es fs : List (Option ℤ)) → AreI16 es → AreI16 fs → AreI16 (es ++ fs)
typed_both [] fs a b = b
typed_both (e ∷ es) fs a b = (a.0, typed_both es fs a.1 b)

-- the entries of a text of the language are of 16 bits
pub text_typed : {s : List ℕ} {k : Kbm} {es : List (Option ℤ)} → MappingText s k es → AreI16 es
text_typed t = rw t.entries (typed_both t.given _ (typed_all t.lines.rest t.given t.lines.entries) (typed_blanks (size_of t.values - length t.given)))

-- entries written over a table that has room for them
over_table : (old : List ℤ) (es : List (Option ℤ)) → AreI16 es → length es ≤ length old →
    (is_table (length es) (over old (numbers_of es)) ≡ true) × (table_of (length es) (over old (numbers_of es)) ≡ es)
over_table old es a h =
    let xs = numbers_of es in
    let l : length es ≡ length xs = sym (length_numbers es) in
    let t : take (length es) (over old xs) ≡ xs = rw l (take-append-le (length xs) xs (drop (length xs) old) (omega arith) ∙ take-length xs) in
    let n : leb (length es) (length (over old xs)) ≡ true = le-leb (length es) (length (over old xs)) (omega (arith, l, length-append xs (drop (length xs) old))) in
    (rw (n, t, numbers_usable es a), rw t (numbers_back es a))

-- THE TABLE after an accepted read
module _ (text : List ℕ) (old : List ℤ) {x : Kbm} (e : read_of (length old) text ≡ gives x) where
  pub leaves_table : (is_table x.count (after_read text old) ≡ true) × (table_of x.count (after_read text old) ≡ entries_in x.count text)
  leaves_table =
      let a = accepted (length old) text x e in
      let t = a.0 in
      let es = entries_in x.count text in
      let top : x.count ≡ size_of t.values = ap (λ k. k.count) t.mapping in
      let n : length es ≡ x.count = omega (arith, ap length t.entries, length_added (size_of t.values) t.given, t.consistent) in
      let r = over_table old es (text_typed t) (omega (arith, a.1)) in
      rw e (rw n at r)

-- the same by the language: what is left are the entries that the text says
pub leaves_meaning : (text : List ℕ) (old : List ℤ) (x : Kbm) (es : List (Option ℤ)) → MappingText text x es → length es ≤ length old →
    (is_table x.count (after_read text old) ≡ true) × (table_of x.count (after_read text old) ≡ es)
leaves_meaning text old x es t h =
    let a = (accepts (length old) text x es).1 (t, h) in
    let l = leaves_table text old a.0 in
    (l.0, l.1 ∙ a.1)

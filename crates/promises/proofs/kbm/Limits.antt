-- THE LIMITS ARE NEEDED: a published text in document 01's language is within them. Assumes nothing.
use Rattle.std.specs.Prelude.{Option}
use mathlib.Core.Path.{◌≡◌, sym, ◌∙◌, subst}
use mathlib.Core.Bool.{false}
use mathlib.Core.List.{List, [], ◌∷◌, ◌++◌}
use mathlib.Core.Logic.{inl, inr}
use Prim.Native.Nat.{ℕ, ◌-◌, ◌^◌, ◌≤◌, ◌<◌}
use native.Mathlib.Omega.{arith}
use lib.Dec.{lit≤}
use lib.IntN.{ℤ, pos}
use lib.ListN.{length}
use Rattle.decimals.specs.DecimalText.{Unsupported, DecimalText, from_nonzero}
use Rattle.integers.specs.IntegerText.{IntText}
use Rattle.kbm.specs.Table.{AreI16}
use Rattle.kbm.specs.declared.Kbm.{Kbm}
use Rattle.kbm_read.specs.Language.{required, unseen, Values, GiveAll, Tokens, MappingText}
use Rattle.integers.proofs.AtLine.{typed_int}
use Rattle.kbm_read.proofs.Tables.{typed_all}
use Rattle.kbm_write.specs.Published as P
use Rattle.text.specs.Reading.{strict, Meaning, Line, EachLine}
use Rattle.base.proofs.Integers.{split}
use Rattle.text.proofs.LinesLanguage.{one_lines}
use Rattle.promises.specs.kbm.Limits.{AllUtf8, WithinLimits}
use Rattle.promises.proofs.kbm.Agree.{same_number, written_degrees, seven, read_values}
use Rattle.promises.proofs.kbm.Values.{not_digits, hertz_supported, hertz_agrees, same_entries}

-- lines that have tokens are UTF-8
all_text : (ls : List (List ℕ)) (xs : List Meaning) → EachLine strict ls xs → (ts : List (List ℕ)) → Tokens xs ts → AllUtf8 ls
all_text [] xs e ts t = tt
all_text (l ∷ ls) [] e ts t = absurd e
all_text (l ∷ ls) (x ∷ xs) e ts t = go x e.0 ts t (λ us u. all_text ls xs e.1 us u)
  where
    go : (y : Meaning) → Line strict l y → (us : List (List ℕ)) → Tokens (y ∷ xs) us → ((vs : List (List ℕ)) → Tokens xs vs → AllUtf8 ls) → AllUtf8 (l ∷ ls)
    go y (Line.not_text n q) us u more = absurd (subst (λ (z : Meaning). Tokens (z ∷ xs) us) q u)
    go y (Line.is_blank r a q) us u more = (r, more us (subst (λ (z : Meaning). Tokens (z ∷ xs) us) q u))
    go y (Line.is_comment r m a d q) us u more = (r, more us (subst (λ (z : Meaning). Tokens (z ∷ xs) us) q u))
    go y (Line.says r m v a o n w q) [] u more = absurd (subst (λ (z : Meaning). Tokens (z ∷ xs) []) q u)
    go y (Line.says r m v a o n w q) (c ∷ us) u more = (r, more us (subst (λ (z : Meaning). Tokens (z ∷ xs) (c ∷ us)) q u).1)

-- an integer without a sign has no `-`
pub no_minus : {t u : List ℕ} {top : ℕ} {z : ℤ} → IntText false top t z → t ≡ 45 ∷ u → ⊥
no_minus (IntText.plain n d h e) q = not_digits (λ a b. omega arith) q d
no_minus (IntText.plus v n s d h e) q = let x : ◌≡◌ {A = ℕ} 43 45 = cc in omega arith
no_minus (IntText.minus v n g s d h e) q = let x : ◌≡◌ {A = ℕ} 0 1 = cc in omega arith

-- and is below the end of its type
small : {t : List ℕ} {top n : ℕ} → IntText false top t (pos n) → n ≤ top - 1
small {n = n} (IntText.plain k d h e) = let x : n ≡ k = cc in omega arith
small {n = n} (IntText.plus v k s d h e) = let x : n ≡ k = cc in omega arith
small (IntText.minus v k g s d h e) = let x : ◌≡◌ {A = ℕ} 0 1 = cc in absurd (omega arith)

pub at_most : (a b : ℕ) → (b < a → ⊥) → a ≤ b
at_most a b f = elim (split b a) [
  | inl h ↦ absurd (f h)
  | inr h ↦ h
]

module _ {s : List ℕ} {m : P.Mapping} (p : P.PublishedText s m) where
  by_values : (vs : Values required) → GiveAll unseen required (seven p) vs → AllUtf8 p.parts → AreI16 m.given → WithinLimits p
  by_values (n, (lowest, (highest, (mid, (ref, (hz, (formal, o))))))) g u d =
      let x = p.frequency.value in
      let dec : DecimalText p.frequency.token hz = g.1.1.1.1.1.0.0 in
      let supported = hertz_supported p.frequency.token m.hertz m.places hz x dec in
      let hz-is = hertz_agrees p.frequency.token m.hertz m.places hz x dec in
      let size_is : pos m.size ≡ pos n = same_number p.size g.0 in
      let count : m.size ≡ n = cc in
      let first_is = same_number p.first g.1.0 in
      let last_is = same_number p.last g.1.1.0.0 in
      record {
        utf8 = u;
        size = omega (arith, count, small g.0);
        unsigned = λ t. no_minus g.0;
        first = rw first_is (typed_int (2 ^ 31) 2147483647 (lit≤ tt) g.1.0);
        last = rw last_is (typed_int (2 ^ 31) 2147483647 (lit≤ tt) g.1.1.0.0);
        before_end = λ e. g.1.1.0.1 (sym last_is ∙ e);
        forward = rw (first_is, last_is) g.1.1.0.2;
        middle = rw (same_number p.middle g.1.1.1.0) (typed_int (2 ^ 15) 32767 (lit≤ tt) g.1.1.1.0);
        reference = rw (same_number p.reference g.1.1.1.1.0) (typed_int (2 ^ 15) 32767 (lit≤ tt) g.1.1.1.1.0);
        digits = omega (arith, at_most (length (from_nonzero (x.whole ++ x.part))) 18 (λ h. supported (Unsupported.long h)));
        places = omega (arith, x.places, at_most (length x.part) 18 (λ h. supported (Unsupported.deep h)));
        pitch = rw hz-is at g.1.1.1.1.1.0.1;
        octave = rw (same_number p.octave g.1.1.1.1.1.1.0) (typed_int (2 ^ 15) 32767 (lit≤ tt) g.1.1.1.1.1.1.0);
        degrees = d;
      }

  pub taken_within : (k : Kbm) (es : List (Option ℤ)) → MappingText s k es → WithinLimits p
  taken_within k es a =
      let r = read_values p a in
      let parts : a.text.parts ≡ p.parts = sym (one_lines a.text.lines) ∙ one_lines p.lines in
      let texts = all_text a.text.parts a.says a.text.each (a.lines.first ++ a.lines.rest) a.lines.words in
      let given : m.given ≡ a.given = same_entries (written_degrees p).tokens m.given a.given (written_degrees p).are r.1 in
      by_values a.values r.0 (subst AllUtf8 parts texts) (rw given (typed_all (written_degrees p).tokens a.given r.1))

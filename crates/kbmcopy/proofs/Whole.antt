-- A copy is whole: what was read is all that the reader had, or as much as is printed alike, and what was written is what is printed for it.
use Rattle.std.proofs.Common.{◌≡◌, ℕ, ◌≤◌, ◌<◌, List, [], ◌++◌, arith, length, take, drop, refl, sym, ap, ◌∙◌, subst, IfSome, Bool, true, false, length-take-le}
use Rattle.std.proofs.lemmas.List.{append-nil, length-append}
use Rattle.std.proofs.Math.Seq.{take-append_seam}
use Rattle.std.specs.Prelude.{ltb, Result, Ok, Err, IfOk}
use Rattle.std.specs.Result.{MatchResult, is_ok}
use Rattle.std.specs.Io.KnownBytes.{Appends, Consumes, IsAtEnd}
use Rattle.std.specs.declared.option.Option.{Option}
use Rattle.std.specs.declared.option.Option.TheVariants.{None, Some}
use borrow.Author.Tests.{lt-ltb, ltb-true, ltb-false}
use Rattle.base.specs.Tables.{over}
use Rattle.copying.specs.Copy.{printed}

-- after 65,536 bytes no other matters
printed_more : (s more : List ℕ) → 65536 < length s → printed (s ++ more) ≡ printed s
unfolding printed
printed_more s more long =
    let longer : 65536 < length (s ++ more) = omega (arith, length-append s more) in
    rw (lt-ltb 65536 (length s) long, lt-ltb 65536 (length (s ++ more)) longer)

-- as much as was read is printed as all is
same_printed : (n : ℕ) (input left : List ℕ) → length input ≡ 65537 → n ≤ length input → (n < length input → left ≡ [])
    → printed (take n input ++ left) ≡ printed (take n input)
same_printed n input left full within end = go (ltb n (length input)) refl
  where
    go : (b : Bool) → ltb n (length input) ≡ b → printed (take n input ++ left) ≡ printed (take n input)
    go true e = ap (λ l. printed (take n input ++ l)) (end (ltb-true n (length input) e)) ∙ ap printed (append-nil (take n input))
    go false e = printed_more (take n input) left (omega (arith, length-take-le n input within, ltb-false n (length input) e))

-- what was written is what is printed for all that the reader had
pub whole : (given left held grown : Option (List ℕ)) (n m : ℕ) (input out new : List ℕ) → length input ≡ 65537 → n ≤ length input
    → Consumes given left (take n input) → (n < length input → IsAtEnd left)
    → m ≡ length (printed (take n input)) → new ≡ over out (printed (take n input)) → Appends held grown (take m new)
    → IfSome given (λ text. Appends held grown (printed text))
whole None left held grown n m input out new full within read end count wrote grew = tt
whole (Some text) None held grown n m input out new full within read end count wrote grew = absurd read
whole (Some text) (Some left) held grown n m input out new full within read end count wrote grew =
    let p = printed (take n input) in
    let front : take m new ≡ p = ap (λ k. take k new) count ∙ ap (take (length p)) wrote ∙ take-append_seam p (drop (length p) out) in
    subst (Appends held grown) (front ∙ sym (same_printed n input left full within end) ∙ ap printed (sym read)) grew

-- what maps the error keeps the value, and so each fact of it
pub value_kept : {T E D : Type 0} (r : Result T E) (s : Result T D) (P : E → Type 0) (Q : T → Type 0)
    → MatchResult r (λ x. s ≡ Ok x) P → is_ok s ≡ is_ok r → IfOk r Q → IfOk s Q
value_kept (Ok x) (Ok y) P Q same variant holds = let e : x ≡ y = cc in subst Q e holds
value_kept (Ok x) (Err d) P Q same variant holds = tt
value_kept (Err e) (Ok y) P Q same variant holds = let no : true ≡ false = variant in cc
value_kept (Err e) (Err d) P Q same variant holds = tt

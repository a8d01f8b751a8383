-- Where a fault of a listing is drawn, and the numbers that can be drawn there. Assumes nothing.
use mathlib.Core.Path.{◌≡◌, ap}
use mathlib.Core.List.{List, ◌∷◌}
use mathlib.Core.Logic.{inl, inr}
use Prim.Native.Nat.{ℕ, ◌≤◌}
use native.Mathlib.Omega.{arith}
use lib.ListN.{length, length-append}
use Rattle.base.specs.Numbers.{not_utf8, line_missing, no_room}
use Rattle.text.specs.Reading.{Meaning, invalid, blank, comment, content}
use Rattle.listing.specs.Listing.{Format, Values, seen_from, WrongLine, WrongEntry, Fault}

module _ (F : Format) (End : Values F F.required → List F.Entry → ℕ → Type 0) (Line : ℕ → Type 0) (Last : ℕ → Type 0) where
  -- at a line, for a required line that is missing, or after the last line
  pub data DrawnAt (lines n d : ℕ) : Type 0 where
    at_line : Line n → 1 ≤ d → d ≤ lines → DrawnAt lines n d
    missing : n ≡ line_missing → 1 ≤ d → d ≤ length F.required → DrawnAt lines n d
    at_end : Last n → d ≡ 0 → DrawnAt lines n d

  module _ (utf8 : Line not_utf8) (full : Line no_room)
      (wrong : (f : F.Required) (s : F.Seen) (w : F.Word) (n : ℕ) → F.Wrong f s w n → Line n)
      (bad : (w : F.Word) (n : ℕ) → F.Bad w n → Line n)
      (end : (vs : Values F F.required) (es : List F.Entry) (n : ℕ) → End vs es n → Last n) where
    line_draws : (f : F.Required) (s : F.Seen) (m : Meaning) (n : ℕ) → WrongLine F f s m n → Line n
    line_draws f s invalid n w = rw w utf8
    line_draws f s blank n w = absurd w
    line_draws f s comment n w = absurd w
    line_draws f s (content m t) n w = wrong f s (F.word m t) n w

    entry_draws : (room : ℕ) (es : List F.Entry) (m : Meaning) (n : ℕ) → WrongEntry F room es m n → Line n
    entry_draws room es invalid n w = rw w utf8
    entry_draws room es blank n w = absurd w
    entry_draws room es comment n w = absurd w
    entry_draws room es (content m t) n (inl w) = bad (F.word m t) n w
    entry_draws room es (content m t) n (inr w) = rw w.0 full

    pub drawn_at : {room : ℕ} {ms : List Meaning} {n d : ℕ} → Fault F End room ms n d → DrawnAt (length ms) n d
    drawn_at {n = n} (Fault.at_required before line after e p done f more rq vs b w) =
        DrawnAt.at_line (line_draws f (seen_from F F.unseen done vs) line n w) (omega (arith, p)) (omega (arith, ap length e, p, length-append before (line ∷ after)))
    drawn_at {room} {n = n} (Fault.at_entry before line after e p vs es b f w) =
        DrawnAt.at_line (entry_draws room es line n w) (omega (arith, p)) (omega (arith, ap length e, p, length-append before (line ∷ after)))
    drawn_at (Fault.missing e done f more rq p vs b) =
        DrawnAt.missing e (omega (arith, p)) (omega (arith, p, ap length rq, length-append done (f ∷ more)))
    drawn_at {n = n} (Fault.at_end e vs es b f w) = DrawnAt.at_end (end vs es n w) e

-- In ample room no listing draws 12, and a fault that is not 12 stays where there is more room. Assumes nothing.
use mathlib.Core.Path.{◌≡◌, refl, ap}
use mathlib.Core.List.{List, [], ◌∷◌, ◌++◌}
use mathlib.Core.Logic.{inl, inr}
use Prim.Native.Nat.{ℕ, suc, ◌≤◌}
use native.Mathlib.Omega.{arith}
use lib.ListN.{length, length-append}
use Rattle.base.specs.Numbers.{no_room}
use Rattle.text.specs.Reading.{Reading, Meaning, invalid, blank, comment, content, Says}
use Rattle.listing.specs.Drawn.{Drawn}
use Rattle.listing.specs.Listing.{Format, Values, seen_from, Entries, Words, Begins, WrongLine, WrongEntry, Fault}
use Rattle.listing.proofs.Details.{lines_few, each_one}

-- 12 is none of those numbers
pub not_no_room : (n : ℕ) → Drawn n → n ≡ no_room → ⊥
not_no_room n (inl w) e = omega (arith, w.1)
not_no_room n (inr (inl w)) e = omega (arith, w)
not_no_room n (inr (inr (inl w))) e = omega (arith, w)
not_no_room n (inr (inr (inr w))) e = omega (arith, w)

-- a text says no more than it has bytes
pub says_few : {R : Reading} {s : List ℕ} {ms : List Meaning} → Says R s ms → length ms ≤ length s
says_few {R} {s} {ms} t = omega (arith, lines_few t.lines, each_one R t.parts ms t.each)

module _ (F : Format) where
  -- there are no more words than lines, and as many entries as words
  words_few : (ms : List Meaning) (ws : List F.Word) → Words F ms ws → length ws ≤ length ms
  words_few [] [] w = omega arith
  words_few [] (x ∷ ws) w = absurd w
  words_few (invalid ∷ ms) ws w = absurd w
  words_few (blank ∷ ms) ws w = omega (arith, words_few ms ws w)
  words_few (comment ∷ ms) ws w = omega (arith, words_few ms ws w)
  words_few (content m t ∷ ms) [] w = absurd w
  words_few (content m t ∷ ms) (x ∷ ws) w = omega (arith, words_few ms ws w.1)

  as_many : (ws : List F.Word) (es : List F.Entry) → Entries F ws es → length ws ≡ length es
  as_many [] [] e = refl
  as_many [] (x ∷ es) e = absurd e
  as_many (w ∷ ws) [] e = absurd e
  as_many (w ∷ ws) (x ∷ es) e = ap suc (as_many ws es e.1)

  pub entries_few : {ms : List Meaning} {done : List F.Required} {vs : Values F done} {es : List F.Entry} → Begins F ms done vs es → length es ≤ length ms
  entries_few {ms} {es = es} b =
      omega (arith, words_few ms (b.first ++ b.rest) b.words, length-append b.first b.rest, as_many b.rest es b.entries)

  module _ (End : Values F F.required → List F.Entry → ℕ → Type 0) (room : ℕ) (ms : List Meaning) (n d : ℕ) where
    -- IN AMPLE ROOM a fault has one of the numbers by which a text is outside its language: 1, 2, and what its lines draw
    module _ (Draws : ℕ → Type 0) (early : (1 ≤ n) → (n ≤ 2) → Draws n) (ample : length ms ≤ room)
        (wrong : (f : F.Required) (s : F.Seen) (w : F.Word) → F.Wrong f s w n → Draws n) (bad : (w : F.Word) → F.Bad w n → Draws n)
        (end : (vs : Values F F.required) (es : List F.Entry) → Begins F ms F.required vs es → End vs es n → Draws n) where
      at_line : (f : F.Required) (s : F.Seen) (line : Meaning) → WrongLine F f s line n → Draws n
      at_line f s invalid w = early (omega (arith, w)) (omega (arith, w))
      at_line f s blank w = absurd w
      at_line f s comment w = absurd w
      at_line f s (content m t) w = wrong f s (F.word m t) w

      at_entry : (es : List F.Entry) → suc (length es) ≤ room → (line : Meaning) → WrongEntry F room es line n → Draws n
      at_entry es h invalid w = early (omega (arith, w)) (omega (arith, w))
      at_entry es h blank w = absurd w
      at_entry es h comment w = absurd w
      at_entry es h (content m t) (inl w) = bad (F.word m t) w
      at_entry es h (content m t) (inr w) = absurd (omega (arith, w.1))

      pub fault_drawn : Fault F End room ms n d → Draws n
      fault_drawn (Fault.at_required before line after e p done f more rq vs b w) = at_line f (seen_from F F.unseen done vs) line w
      fault_drawn (Fault.at_entry before line after e p vs es b f w) =
          at_entry es (omega (arith, entries_few b, ap length e, length-append before (line ∷ after))) line w
      fault_drawn (Fault.missing e done f more rq p vs b) = early (omega (arith, e)) (omega (arith, e))
      fault_drawn (Fault.at_end e vs es b f w) = end vs es b w

    -- WITH MORE ROOM: a fault that is not 12 is one there too
    module _ (End' : Values F F.required → List F.Entry → ℕ → Type 0) (more : ℕ) (wider : room ≤ more) (other : n ≡ no_room → ⊥)
        (end : (vs : Values F F.required) (es : List F.Entry) → End vs es n → End' vs es n) where
      entry_stays : (es : List F.Entry) (line : Meaning) → WrongEntry F room es line n → WrongEntry F more es line n
      entry_stays es invalid w = w
      entry_stays es blank w = absurd w
      entry_stays es comment w = absurd w
      entry_stays es (content m t) (inl w) = inl w
      entry_stays es (content m t) (inr w) = absurd (other w.0)

      pub fault_stays : Fault F End room ms n d → Fault F End' more ms n d
      fault_stays (Fault.at_required before line after e p done f rest rq vs b w) = Fault.at_required before line after e p done f rest rq vs b w
      fault_stays (Fault.at_entry before line after e p vs es b f w) = Fault.at_entry before line after e p vs es b (omega arith) (entry_stays es line w)
      fault_stays (Fault.missing e done f rest rq p vs b) = Fault.missing e done f rest rq p vs b
      fault_stays (Fault.at_end e vs es b f w) = Fault.at_end e vs es b (omega arith) (end vs es w)

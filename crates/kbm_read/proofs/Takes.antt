-- The laws of what a line adds: what a numeral's reader answered, and what a match made of it. Assumes nothing.
use Rattle.std.specs.Prelude.{None, Some, Option}
use mathlib.Core.Path.{◌≡◌, ap}
use mathlib.Core.Bool.{Bool, true, false}
use mathlib.Core.List.{List}
use Prim.Native.Nat.{ℕ, zero, suc, ◌+◌, ◌^◌, ◌≤◌, ◌<◌}
use native.Mathlib.Omega.{arith}
use lib.Ieee.{Float}
use lib.IntN.{ℤ, pos, negsuc, ◌+ℤ◌}
use lib.Signed.{le_z}
use mir.Syntax.{w32}
use mir.Val.{SFits}
use borrow.Author.Tests.{lt-ltb, le-ltb, le-leb, lt-leb, leb-false}
use Rattle.base.specs.Numbers.{float_value, keyboard_mapping, unusable, overflow, no_room, backwards_range}
use Rattle.base.specs.Said.{Said, gives, refuses, refusal, and_then}
use Rattle.base.specs.declared.Refusal.{Refusal}
use Rattle.decimals.specs.Answers.{says_decimal}
use Rattle.floats.specs.Ranges.{in_pitch}
use Rattle.decimals.specs.DecimalScan.{read_decimal}
use Rattle.integers.specs.Integer.{Int, read_int}
use Rattle.text.specs.Part.{part}
use Rattle.text.specs.ReadLine.{shown}
use Rattle.text.specs.declared.line.LineSays.{LineSays}
use Rattle.text.specs.declared.line.LineSays.TheVariants.{Content}
use Rattle.kbm_read.specs.Steps.{goes_on, last_taken, take_pitch, take_entry, take_due, take_token, take_meaning, is_cross, degree_in, entry_in, found_entry, found_in}
use Rattle.kbm_read.specs.declared.line.Due.{Due}
use Rattle.kbm_read.specs.declared.line.Due.TheVariants as due
use Rattle.kbm_read.specs.declared.line.Found.TheVariants as found
use Rattle.kbm_read.specs.declared.line.Head.{Head}
use Rattle.kbm_read.specs.declared.line.State.{State}

-- a key that is not the largest has one after it
pub next_fits : (z : ℤ) → SFits w32 z → le_z (pos 2147483647) z ≡ false → SFits w32 (z +ℤ pos 1)
next_fits (pos n) h e = let m = leb-false 2147483647 n e in record { sfits = omega (arith, h.sfits) }
next_fits (negsuc zero) h e = record { sfits = omega arith }
next_fits (negsuc (suc n)) h e = record { sfits = rw (lt-ltb 1 (suc (suc n)) (omega arith)) (omega (arith, h.sfits)) }

-- the last key z, by its two tests
module _ (k : ℕ) (h : Head) (z : ℤ) where
  pub last_over : le_z (pos 2147483647) z ≡ true → refuses overflow k ≡ last_taken k h z
  last_over f = rw f

  pub last_is : le_z (pos 2147483647) z ≡ false → le_z h.first z ≡ true →
      goes_on due.MiddleKey (record { size = h.size; first = h.first; end = z +ℤ pos 1; middle = h.middle; reference = h.reference; hz = h.hz; octave = h.octave }) ≡ last_taken k h z
  last_is f g = rw (f, g)

  pub last_backwards : le_z (pos 2147483647) z ≡ false → le_z h.first z ≡ false → refuses backwards_range k ≡ last_taken k h z
  last_backwards f g = rw (f, g)

-- the reference pitch: a decimal is refused by its answer, or has its value tested
module _ (k : ℕ) (t : List ℕ) (h : Head) where
  pub pitch_refused : (r : Refusal) → refusal r ≡ says_decimal float_value k (read_decimal t) → refusal r ≡ take_pitch k t h
  pitch_refused r e = rw (← e)

  module _ {v : Float} (e : gives v ≡ says_decimal float_value k (read_decimal t)) {b : Bool} (p : b ≡ in_pitch v) where
    pub pitch_is : b ≡ true → goes_on due.Octave (record { size = h.size; first = h.first; end = h.end; middle = h.middle; reference = h.reference; hz = v; octave = h.octave }) ≡ take_pitch k t h
    pitch_is f = rw (← e, ← p, f)

    pub pitch_out : b ≡ false → refuses unusable k ≡ take_pitch k t h
    pitch_out f = rw (← e, ← p, f)

-- an entry: r is what `read_entry` answered
module _ (room k : ℕ) (t : List ℕ) (s : State) {r : (Option (Option ℤ))} (e : r ≡ entry_in t) where
  pub entry_none : r ≡ None → refuses keyboard_mapping k ≡ take_entry room k t s
  entry_none q = rw (← e, q)

  module _ {x : (Option ℤ)} (q : r ≡ Some x) where
    pub entry_full : room ≤ s.count → refuses no_room k ≡ take_entry room k t s
    entry_full f = rw (← e, q, le-leb room s.count f)

    pub entry_more : s.count < room → gives (record { due = due.Entries; head = s.head; count = s.count + 1 }) ≡ take_entry room k t s
    entry_more f = rw (← e, q, lt-leb room s.count f)

-- a step goes on from what is said, or refuses
pub said_err : {A B : Type 0} (f : A → Said B) (r : Refusal) {s : Said A} → refusal r ≡ s → refusal r ≡ and_then s f
said_err f r e = ap (λ s. and_then s f) e

pub said_ok : {A B : Type 0} (f : A → Said B) {a : A} {s : Said A} → gives a ≡ s → f a ≡ and_then s f
said_ok f e = ap (λ s. and_then s f) e

-- the line that is due
pub due_step : (room k : ℕ) (t : List ℕ) (s : State) {d : Due} → s.due ≡ d → take_due room k t s d ≡ take_token room k t s
unfolding take_token
due_step room k t s e = rw e

-- what a line says, as a match told it
pub meaning_step : (room k : ℕ) (text : List ℕ) (s : State) {x y : LineSays} → x ≡ y → take_meaning room k (shown text y) s ≡ take_meaning room k (shown text x) s
meaning_step room k text s e = rw e

-- `x` and `X`
pub cross_is : (t : List ℕ) → is_cross t ≡ true → Some None ≡ entry_in t
unfolding entry_in
cross_is t e = rw e

-- any other token is an i16 or none
pub degree_is : (t : List ℕ) → is_cross t ≡ false → {i : Int} → i ≡ read_int true (2 ^ 15) t → degree_in i ≡ entry_in t
unfolding entry_in
degree_is t n {i} e = rw (n, ← e)

-- what a line gives the table, as a match told it
module _ (n : ℕ) (text : List ℕ) {x : LineSays} where
  pub found_step : {y : LineSays} → x ≡ y → found_in n (shown text y) ≡ found_in n (shown text x)
  found_step q = rw q

  module _ {a e t : ℕ} (q : x ≡ Content a e t) where
    pub found_required : 0 < n → found.Required ≡ found_in n (shown text x)
    found_required h = rw (q, lt-ltb 0 n h)

    pub found_entry_law : n ≤ 0 → {r r' : (Option (Option ℤ))} → r ≡ entry_in (part text a t) → r ≡ r' → found_entry r' ≡ found_in n (shown text x)
    found_entry_law h p g = rw (q, le-ltb 0 n h, ← p, g)

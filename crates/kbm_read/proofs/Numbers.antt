-- What `read_kbm` says is a mapping, one of document 01's numbers, or 25. Assumes nothing.
use Rattle.std.specs.Prelude.{None, Some, Option, Ok, Err, Result, Float}
use mathlib.Core.Bool.{true, false}
use mathlib.Core.List.{List, [], ◌∷◌}
use Prim.Native.Nat.{ℕ, ◌+◌, ◌^◌}
use native.Mathlib.Omega.{arith}
use lib.Dec.{leb, ltb}
use lib.IntN.{ℤ, pos}
use lib.Signed.{le_z}
use Rattle.base.specs.Numbers.{int_value, float_value, backwards_range}
use Rattle.base.specs.Said.{Numbered, NumberedOr}
use Rattle.base.proofs.Said.{numbered_pick, numbered_then, or_pick, or_then}
use Rattle.floats.specs.Ranges.{in_pitch}
use Rattle.decimals.specs.Answers.{says_decimal}
use Rattle.decimals.specs.DecimalScan.{read_decimal}
use Rattle.decimals.specs.declared.DecimalError.{DecimalError}
use Rattle.decimals.specs.declared.DecimalError.TheVariants as decimal
use Rattle.integers.specs.AtLine.{int_at}
use Rattle.listing.specs.Reader.{walk_lines}
use Rattle.text.specs.ReadLine.{said_in}
use Rattle.integers.specs.Integer.{Int, value, none, read_int}
use Rattle.text.specs.Reading.{Meaning, invalid, blank, comment, content}
use Rattle.kbm_read.specs.Steps.{last_taken}
use Rattle.kbm_read.specs.Reader.{entry_placed, entry_in, take_due, take_token, take_meaning, which_of, mapping_of, finished, walk, unread, read_of}
use Rattle.kbm_read.specs.declared.line.Due.{Due}
use Rattle.kbm_read.specs.declared.line.Due.TheVariants as due
use Rattle.kbm_read.specs.declared.line.Head.{Head}
use Rattle.kbm_read.specs.declared.line.State.{State}

int_numbered : (k : ℕ) (i : Int) → Numbered (int_at int_value k i)
int_numbered k (value z) = Numbered.value z
int_numbered k none = Numbered.number {n = 3} (omega arith) (omega arith)

decimal_numbered : (k : ℕ) (x : (Result Float DecimalError)) → Numbered (says_decimal float_value k x)
decimal_numbered k (Ok v) = Numbered.value v
decimal_numbered k (Err decimal.Unsupported) = Numbered.number {n = 9} (omega arith) (omega arith)
decimal_numbered k (Err decimal.Bad) = Numbered.number {n = 7} (omega arith) (omega arith)

placed_numbered : (room k : ℕ) (s : State) (e : (Option (Option ℤ))) → Numbered (entry_placed room k s e)
placed_numbered room k s (Some e) = numbered_pick (leb room s.count) (Numbered.number (omega arith) (omega arith)) (Numbered.value _)
placed_numbered room k s None = Numbered.number {n = 8} (omega arith) (omega arith)

-- the last key: 11, and 25 after it
last_numbered : (k : ℕ) (h : Head) (z : ℤ) → NumberedOr backwards_range (last_taken k h z)
last_numbered k h z =
    or_pick (le_z (pos 2147483647) z) (NumberedOr.known (Numbered.number (omega arith) (omega arith)))
    (or_pick (le_z h.first z) (NumberedOr.known (Numbered.value _)) NumberedOr.other)

-- each other line
due_numbered : (room k : ℕ) (t : List ℕ) (s : State) (d : Due) → NumberedOr backwards_range (take_due room k t s d)
due_numbered room k t s due.Size = NumberedOr.known (numbered_then (int_numbered k (read_int false (2 ^ 16) t)) (λ z. Numbered.value _))
due_numbered room k t s due.FirstKey = NumberedOr.known (numbered_then (int_numbered k (read_int true (2 ^ 31) t)) (λ z. Numbered.value _))
due_numbered room k t s due.LastKey = or_then (NumberedOr.known (int_numbered k (read_int true (2 ^ 31) t))) (last_numbered k s.head)
due_numbered room k t s due.MiddleKey = NumberedOr.known (numbered_then (int_numbered k (read_int true (2 ^ 15) t)) (λ z. Numbered.value _))
due_numbered room k t s due.ReferenceKey = NumberedOr.known (numbered_then (int_numbered k (read_int true (2 ^ 15) t)) (λ z. Numbered.value _))
due_numbered room k t s due.ReferencePitch =
    NumberedOr.known (numbered_then (decimal_numbered k (read_decimal t))
    (λ v. numbered_pick (in_pitch v) (Numbered.value _) (Numbered.number {n = 10} (omega arith) (omega arith))))
due_numbered room k t s due.Octave = NumberedOr.known (numbered_then (int_numbered k (read_int true (2 ^ 15) t)) (λ z. Numbered.value _))
due_numbered room k t s due.Entries = NumberedOr.known (placed_numbered room k s (entry_in t))

meaning_numbered : (room k : ℕ) (m : Meaning) (s : State) → NumberedOr backwards_range (take_meaning room k m s)
unfolding take_token
meaning_numbered room k invalid s = NumberedOr.known (Numbered.number {n = 1} (omega arith) (omega arith))
meaning_numbered room k blank s = NumberedOr.known (Numbered.value s)
meaning_numbered room k comment s = NumberedOr.known (Numbered.value s)
meaning_numbered room k (content m t) s = due_numbered room k t s s.due

finished_numbered : (room : ℕ) (s : State) → Numbered (finished room s)
unfolding finished
finished_numbered room s =
    numbered_pick (ltb 0 (which_of s.due)) (Numbered.number (omega arith) (omega arith))
    (numbered_pick (ltb room s.head.size) (Numbered.number (omega arith) (omega arith))
    (numbered_pick (ltb 65535 s.count) (Numbered.number (omega arith) (omega arith))
    (numbered_pick (ltb s.head.size s.count) (Numbered.number (omega arith) (omega arith)) (Numbered.value (mapping_of s.head)))))

walk_numbered : (room k : ℕ) (s : State) (ms : List Meaning) → NumberedOr backwards_range (walk room k s ms)
unfolding walk_lines
walk_numbered room k s [] = NumberedOr.known (finished_numbered room s)
walk_numbered room k s (m ∷ ms) = or_then (meaning_numbered room k m s) (λ s'. walk_numbered room (k + 1) s' ms)

pub read_kbm_numbered : (room : ℕ) (text : List ℕ) → NumberedOr backwards_range (read_of room text)
read_kbm_numbered room text = walk_numbered room 1 unread (said_in text)

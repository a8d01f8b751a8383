-- A MAPPING THAT WAS READ CAN BE WRITTEN: its numbers are of their types, its last and middle key are keys, its pitch is usable,
-- and so the bytes that its count asks for hold its export. Assumes nothing.
use Rattle.std.specs.Prelude.{Option}
use mathlib.Core.Path.{◌≡◌, ap, subst, ◌∙◌}
use mathlib.Core.Bool.{true}
use mathlib.Core.List.{List, [], ◌∷◌}
use Prim.Native.Nat.{ℕ, zero, suc, ◌+◌, ◌-◌, ◌*◌, ◌^◌, ◌≤◌, ◌<◌}
use native.Mathlib.Omega.{arith}
use lib.Dec.{lit≤}
use lib.IntN.{ℤ, pos, ◌+ℤ◌, ◌-ℤ◌, +ℤ_comm, +ℤ-neg_ℤ_cancel, -ℤ-+ℤ_cancel}
use lib.ListN.{length}
use borrow.Author.Tests.{lt-ltb, le-leb}
use Rattle.base.specs.Integers.{in_i32}
use Rattle.base.specs.Said.{gives}
use Rattle.floats.specs.Ranges.{in_pitch}
use Rattle.integers.specs.IntegerText.{IntText}
use Rattle.kbm.specs.Table.{in_i16, table_of}
use Rattle.kbm.specs.declared.Kbm.{Kbm}
use Rattle.kbm_read.specs.Language.{Required, Seen, required, unseen, see, Value, Values, Gives, GiveAll, size_of, mapping_from, MappingText}
use Rattle.kbm_read.specs.Reader.{read_of, entries_in, after_read}
use Rattle.integers.proofs.AtLine.{typed_int}
use Rattle.kbm_read.proofs.Ends.{small_size}
use Rattle.kbm_read.proofs.Language.{accepted}
use Rattle.kbm_read.proofs.Tables.{leaves_table}
use Rattle.kbm_write.specs.Export.{last_key_of, middle_key_of, export_text, export_of}
use Rattle.kbm_write.proofs.Bound.{never_no_room}
use Rattle.writing.proofs.Room.{Fitting}
use Rattle.kbm_write.proofs.Room.{export_fitting}
use Rattle.kbm_write.specs.Typed.{OfTypes}

-- the key after the last
pos_next : (n : ℕ) → n < 2 ^ 31 → (pos n ≡ pos 2147483647 → ⊥) → in_i32 (pos n +ℤ pos 1) ≡ true
pos_next n h f = let no : n ≡ 2147483647 → ⊥ = λ q. f (ap pos q) in le-leb (n + 1) 2147483647 (omega arith)

after_last : {t : List ℕ} {z : ℤ} → IntText true (2 ^ 31) t z → (z ≡ pos 2147483647 → ⊥) → in_i32 (z +ℤ pos 1) ≡ true
after_last (IntText.plain n d h e) f = rw e (pos_next n h (λ q. f (e ∙ q)))
after_last (IntText.plus u n p d h e) f = rw e (pos_next n h (λ q. f (e ∙ q)))
after_last (IntText.minus u zero g p d h e) f = rw e
after_last (IntText.minus u (suc zero) g p d h e) f = rw e
after_last (IntText.minus u (suc (suc n)) g p d h e) f = rw (e, lt-ltb 1 (suc (suc n)) (omega arith), le-leb (suc (suc n) - suc 1) 2147483647 (omega arith))

-- what is known of the value of a required line
abbrev Known : (f : Required) → Value f → Type 0
Known Required.size n = Unit {0}
Known Required.first z = in_i32 z ≡ true
Known Required.last z = (in_i32 z ≡ true) × (in_i32 (z +ℤ pos 1) ≡ true)
Known Required.middle z = in_i32 z ≡ true
Known Required.reference z = in_i32 z ≡ true
Known Required.pitch v = in_pitch v ≡ true
Known Required.octave z = in_i16 z ≡ true

known : (f : Required) (key : Seen) (t : List ℕ) (v : Value f) → Gives f key t v → Known f v
known Required.size key t n g = tt
known Required.first key t z g = typed_int (2 ^ 31) 2147483647 (lit≤ tt) g
known Required.last key t z g = (typed_int (2 ^ 31) 2147483647 (lit≤ tt) g.0, after_last g.0 g.1)
known Required.middle key t z g = typed_int (2 ^ 15) 2147483647 (lit≤ tt) g
known Required.reference key t z g = typed_int (2 ^ 15) 2147483647 (lit≤ tt) g
known Required.pitch key t v g = g.1
known Required.octave key t z g = typed_int (2 ^ 15) 32767 (lit≤ tt) g

abbrev AllKnown : (fs : List Required) → Values fs → Type 0
AllKnown [] vs = Unit {0}
AllKnown (f ∷ fs) vs = Known f vs.0 × AllKnown fs vs.1

all_known : (key : Seen) (fs : List Required) (ts : List (List ℕ)) (vs : Values fs) → GiveAll key fs ts vs → AllKnown fs vs
all_known key [] ts vs g = tt
all_known key (f ∷ fs) [] vs g = absurd g
all_known key (f ∷ fs) (t ∷ ts) vs g = (known f key t vs.0 g.0, all_known (see f key vs.0) fs ts vs.1 g.1)

-- what is known of a mapping that was read
record Read (k : Kbm) : Type 0 where
  types : OfTypes k
  pitch : in_pitch k.root.pitch.0 ≡ true
  last : in_i32 (last_key_of k) ≡ true
  middle : in_i32 (middle_key_of k) ≡ true

by_values : (vs : Values required) → AllKnown required vs → size_of vs < 65536 → Read (mapping_from vs)
by_values (n, (lowest, (highest, (mid, (ref, (hz, (formal, o))))))) (_, (first, (last, (middle, (reference, (pitch, (octave, _))))))) small =
    let is_last : highest +ℤ pos 1 -ℤ pos 1 ≡ highest = +ℤ-neg_ℤ_cancel highest (pos 1) in
    let is-middle : ref +ℤ (mid -ℤ ref) ≡ mid = +ℤ_comm ref (mid -ℤ ref) ∙ -ℤ-+ℤ_cancel mid ref in
    record {
      types = record { start = first; end = last.1; reference = reference; octave = octave; count = omega arith };
      pitch = pitch;
      last = rw is_last last.0;
      middle = rw is-middle middle;
    }

mapping_read : {s : List ℕ} {k : Kbm} {es : List (Option ℤ)} → MappingText s k es → Read k
mapping_read t = rw t.mapping (by_values t.values (all_known unseen required t.lines.first t.values t.lines.values) (small_size t.lines))

-- WHAT WAS READ IS WRITTEN: into so many bytes for the table's places, and as the entries that the text has
module _ (s : List ℕ) (old : List ℤ) (room : ℕ) (h : 73 + 7 * length old ≤ room) {k : Kbm} (e : read_of (length old) s ≡ gives k)
    {map : List ℤ} (m : map ≡ after_read s old) where
  pub entries_left : table_of k.count map ≡ entries_in k.count s
  entries_left = rw m (leaves_table s old e).1

  pub read_written : export_of k map room ≡ gives (export_text k (table_of k.count map))
  read_written =
      let a = accepted (length old) s k e in
      let r = mapping_read a.0 in
      never_no_room k map r.types room (record { table = rw m (leaves_table s old e).0; pitch = r.pitch; last = r.last; middle = r.middle }) (omega (arith, a.1))

  pub written_fits : length (export_text k (table_of k.count map)) ≤ room
  written_fits = subst (Fitting room) read_written (export_fitting k map room)

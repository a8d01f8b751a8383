-- What is printed by the length of the input and by what its text says; and that it has room. Assumes nothing.
use mathlib.Core.Path.{◌≡◌, sym, ap, ◌∙◌}
use mathlib.Core.List.{List}
use Prim.Native.Nat.{ℕ, ◌+◌, ◌*◌, ◌^◌, ◌≤◌, ◌<◌}
use native.Mathlib.Omega.{arith}
use lib.IntN.{ℤ}
use lib.ListN.{length, take, length-take}
use borrow.Author.Tests.{lt-ltb, le-ltb}
use Rattle.base.specs.Numbers.{no_room}
use Rattle.base.specs.Said.{Said, gives, refuses}
use Rattle.base.specs.Tables.{over}
use Rattle.kbm.specs.Table.{table_of}
use Rattle.kbm.specs.declared.Kbm.{Kbm}
use Rattle.kbm_read.specs.Reader.{read_of, after_read}
use Rattle.kbm_write.specs.Export.{export_text, export_of}
use Rattle.copying.specs.Copy.{refused_text, printed_as, copy_text, printed}
use Rattle.copying.proofs.Details.{detail_whole}
use Rattle.copying.proofs.Texts.{refused_short}
use Rattle.copying.proofs.Exports.{entries_left, read_written, written_fits}

pub printed_long : (s : List ℕ) → 65536 < length s → printed s ≡ refused_text no_room 0
unfolding printed
printed_long s h = rw (lt-ltb 65536 (length s) h)

pub printed_short : (s : List ℕ) → length s ≤ 65536 → printed s ≡ copy_text s
unfolding printed
printed_short s h = rw (le-ltb 65536 (length s) h)

pub copy_says : (s : List ℕ) {x : Said Kbm} → read_of 8192 s ≡ x → copy_text s ≡ printed_as s x
copy_says s e = rw e

-- the first n bytes of the lent ones
module _ (input : List ℕ) (n : ℕ) (all : length input ≡ 65537) where
  pub first_long : 65536 < n → 65536 < length (take n input)
  first_long h = simp length-take (omega arith)

  pub first_short : n ≤ 65537 → n ≡ length (take n input)
  first_short h = simp length-take (omega arith)

  pub first_most : length (take n input) ≤ 65537
  first_most = simp length-take (omega arith)

-- r bytes of the lent ones, which have room, are t from the first on; the others are as they were
abbrev Filled : List ℕ → List ℕ → ℕ → List ℕ → Type 0
Filled t l r m = ((r ≡ length t) × (r ≤ 57417)) × (m ≡ over l t)

filled_as : {t : List ℕ} (u l : List ℕ) {m : List ℕ} {r : ℕ} → u ≡ t → length t ≤ 57417 → (r ≡ length t) × (m ≡ over l t) → Filled u l r m
filled_as u l e h w = rw e ((w.0, rw w.0 h), w.1)

filled_line : (u l : List ℕ) (number detail : ℕ) {m : List ℕ} {r : ℕ} → u ≡ refused_text number detail → (r ≡ length (refused_text number detail)) × (m ≡ over l (refused_text number detail)) → Filled u l r m
filled_line u l number detail e = filled_as u l e (omega (arith, refused_short number detail))

-- a text, a table of 8,192 places and room for the longest export
module _ (s : List ℕ) (old : List ℤ) (out : List ℕ) (p : (length s ≤ 65537) × (length old ≡ 8192) × (length out ≡ 57417)) where
  says : {x : Said Kbm} → x ≡ read_of (length old) s → copy_text s ≡ printed_as s x
  says e = copy_says s (rw p.1 at (sym e))

  -- the text is refused
  module _ {n d : ℕ} (e : refuses n d ≡ read_of (length old) s) where
    pub detail_fits : d < 2 ^ 32
    detail_fits = detail_whole (length old) s n d p.0 (sym e)

    pub refusal_printed : {m : List ℕ} {r : ℕ} → (r ≡ length (refused_text n d)) × (m ≡ over out (refused_text n d)) → Filled (copy_text s) out r m
    refusal_printed = filled_line (copy_text s) out n d (says e)

  -- a mapping was read
  module _ {k : Kbm} (e : gives k ≡ read_of (length old) s) {map : List ℤ} (left : map ≡ after_read s old) where
    abbrev text : List ℕ
    text = export_text k (table_of k.count map)

    room : 73 + 7 * length old ≤ length out
    room = omega (arith, p.1, p.2)

    pub export_given : export_of k map (length out) ≡ gives text
    export_given = read_written s old (length out) room (sym e) left

    pub export_printed : {m : List ℕ} {r : ℕ} → (r ≡ length text) × (m ≡ over out text) → Filled (copy_text s) out r m
    export_printed =
        filled_as (copy_text s) out (says e ∙ ap (export_text k) (sym (entries_left s old (length out) room (sym e) left)))
        (omega (arith, written_fits s old (length out) room (sym e) left, p.2))

-- the length is tested first
module _ (s l : List ℕ) {m : List ℕ} {r : ℕ} where
  pub long_printed : 65536 < length s → (r ≡ length (refused_text no_room 0)) × (m ≡ over l (refused_text no_room 0)) → Filled (printed s) l r m
  long_printed h = filled_line (printed s) l no_room 0 (printed_long s h)

  pub short_printed : length s ≤ 65536 → Filled (copy_text s) l r m → Filled (printed s) l r m
  short_printed h w = rw (printed_short s h) w

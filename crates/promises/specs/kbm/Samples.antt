-- SAMPLES: texts, and what the calls answer for their keys (document 01's example for `kbmcopy`; the same with `x` written small, as
-- Scala's pages have it; that one with middle and reference key one, and with an entry more; a text at the ends of 32 bits), and the round
-- trip. Keys are counted from the reference key (01) and from the middle key (document 02, W1). Assumes nothing.
use Rattle.std.specs.Prelude.{◌≡◌, false, List, [], ◌∷◌, ◌++◌, ℕ, ◌^◌, ℤ, pos, negsuc, ◌-ℤ◌, length, get_or, Some, None, Option}
use Rattle.std.specs.Float.Ieee.{round}
use Rattle.std.specs.Float.{binary64}
use Rattle.base.specs.Numbers.{overflow, key_out_of_range, unmapped_key}
use Rattle.base.specs.Said.{gives, refuses}
use Rattle.kbm.specs.Degree.{scale_degree_of}
use Rattle.kbm.specs.Middle.{scale_degree_from_middle}
use Rattle.kbm.specs.Samples.{sample, sample_table}
use Rattle.kbm.specs.Table.{table_of}
use Rattle.kbm.specs.declared.Kbm.{Kbm}
use Rattle.kbm_read.specs.Language.{MappingText}
use Rattle.kbm_read.specs.Reader.{read_of, after_read}
use Rattle.kbm_write.specs.Again.{ComesBack}
use Rattle.writing.specs.Lines.{lines_text}
use Rattle.kbm_write.specs.Published as P
use Rattle.kbm_write.specs.Typed.{TypedKbm}
use Rattle.key.specs.Keys.{key}
use Rattle.pitch.specs.declared.Pitch.{Pitch}
use Rattle.promises.specs.kbm.KeysOfText.{entry_tokens, middle_key, reference_key, Inside, Counts, Silent, SaidOf}

-- `3`, `0`, `127`, the middle key, `60`, `261.6256`, `5`, `0`, and the last entry
abbrev pub example_lines : List ℕ → List ℕ → List (List ℕ)
example_lines middle entry =
    (51 ∷ []) ∷ (48 ∷ []) ∷ (49 ∷ 50 ∷ 55 ∷ []) ∷ middle ∷ (54 ∷ 48 ∷ []) ∷ (50 ∷ 54 ∷ 49 ∷ 46 ∷ 54 ∷ 50 ∷ 53 ∷ 54 ∷ []) ∷ (53 ∷ []) ∷ (48 ∷ []) ∷ entry ∷ []

-- 01's own input: middle key `62`, last entry `X`, "each with LF"
abbrev pub input_text : List ℕ
input_text = lines_text (example_lines (54 ∷ 50 ∷ []) (88 ∷ []))

-- the same with `x`
abbrev pub example_text : List ℕ
example_text = lines_text (example_lines (54 ∷ 50 ∷ []) (120 ∷ []))

-- the same with `x` and middle key `60`, which is the reference key
abbrev pub middle_text : List ℕ
middle_text = lines_text (example_lines (54 ∷ 48 ∷ []) (120 ∷ []))

-- what it says as published, with that middle key: size 3, keys 0 to 127, reference 60, 2616256 / 10^4 Hz, octave 5; 0, and none
abbrev pub example_mapping : ℤ → P.Mapping
example_mapping middle =
    record {
      size = 3;
      first = pos 0;
      last = pos 127;
      middle = middle;
      reference = pos 60;
      hertz = 2616256;
      places = 4;
      octave = pos 5;
      given = Some (pos 0) ∷ None ∷ [];
    }

-- and by 01: the f64 nearest to 261.6256, the end after the last key, and one entry added
abbrev pub example_kbm : ℤ → Kbm
example_kbm middle =
    record {
      root = record { reference = key (pos 60); pitch = record { 0 = round binary64 false 2616256 (10 ^ 4) }; offset = middle -ℤ pos 60 };
      start = key (pos 0);
      end = key (pos 128);
      octave = pos 5;
      count = 3;
    }

abbrev pub example_entries : List (Option ℤ)
example_entries = Some (pos 0) ∷ None ∷ None ∷ []

-- THE KEYS OF 01'S OWN INPUT, read into a table `old`
pub record CopyKeys (old : List ℤ) : Type 0 where
  pub text : MappingText input_text (example_kbm (pos 62)) example_entries
  pub tokens : entry_tokens text ≡ (48 ∷ []) ∷ (88 ∷ []) ∷ []
  pub read : read_of (length old) input_text ≡ gives (example_kbm (pos 62))
  -- -1 and 128 lie outside, 61 meets `X`, 62 the entry left out; 60 has degree 0, 63 degree 5
  pub low : scale_degree_of (example_kbm (pos 62)) (after_read input_text old) (key (negsuc 0)) ≡ refuses key_out_of_range 0
  pub at60 : scale_degree_of (example_kbm (pos 62)) (after_read input_text old) (key (pos 60)) ≡ gives (pos 0)
  pub at61 : scale_degree_of (example_kbm (pos 62)) (after_read input_text old) (key (pos 61)) ≡ refuses unmapped_key 0
  pub at62 : scale_degree_of (example_kbm (pos 62)) (after_read input_text old) (key (pos 62)) ≡ refuses unmapped_key 0
  pub at63 : scale_degree_of (example_kbm (pos 62)) (after_read input_text old) (key (pos 63)) ≡ gives (pos 5)
  pub high : scale_degree_of (example_kbm (pos 62)) (after_read input_text old) (key (pos 128)) ≡ refuses key_out_of_range 0
  -- which is what the text's own lines say of 61 and 62
  pub cross : Silent reference_key text.values (entry_tokens text) (pos 61)
  pub left_out : Silent reference_key text.values (entry_tokens text) (pos 62)

-- KEYS THAT SOUND AND DO NOT, of the published text with middle and reference key one, read as k into a table `old`
pub record MiddleKeys (k : Kbm) (old : List ℤ) : Type 0 where
  pub read : read_of (length old) middle_text ≡ gives k
  -- 63 sounds degree 5, here and as published
  pub here63 : scale_degree_of k (after_read middle_text old) (key (pos 63)) ≡ gives (pos 5)
  pub there63 : P.Sounds (example_mapping (pos 60)) (pos 63) (pos 5)
  -- 61 sounds none
  pub here61 : scale_degree_of k (after_read middle_text old) (key (pos 61)) ≡ refuses unmapped_key 0
  pub there61 : (d : ℤ) → P.Sounds (example_mapping (pos 60)) (pos 61) d → ⊥
  -- 128 is not retuned
  pub here128 : scale_degree_of k (after_read middle_text old) (key (pos 128)) ≡ refuses key_out_of_range 0
  pub there128 : P.Retuned (example_mapping (pos 60)) (pos 128) → ⊥

-- KEYS THAT SOUND AND DO NOT, of the published text with middle key 62, read as k into a table `old`: counted from the middle key
pub record ExampleKeys (k : Kbm) (old : List ℤ) : Type 0 where
  pub read : read_of (length old) example_text ≡ gives k
  -- 62 sounds degree 0, here and as published, and 65 degree 5
  pub here62 : scale_degree_from_middle k (after_read example_text old) (key (pos 62)) ≡ gives (pos 0)
  pub there62 : P.Sounds (example_mapping (pos 62)) (pos 62) (pos 0)
  pub here65 : scale_degree_from_middle k (after_read example_text old) (key (pos 65)) ≡ gives (pos 5)
  pub there65 : P.Sounds (example_mapping (pos 62)) (pos 65) (pos 5)
  -- 60 sounds none
  pub here60 : scale_degree_from_middle k (after_read example_text old) (key (pos 60)) ≡ refuses unmapped_key 0
  pub there60 : (d : ℤ) → P.Sounds (example_mapping (pos 62)) (pos 60) d → ⊥
  -- 128 is not retuned
  pub here128 : scale_degree_from_middle k (after_read example_text old) (key (pos 128)) ≡ refuses key_out_of_range 0
  pub there128 : P.Retuned (example_mapping (pos 62)) (pos 128) → ⊥

-- the example with `x` and an entry `2` more: entries 0, x, 2, middle key 62, reference key 60
abbrev pub counted_text : List ℕ
counted_text = lines_text (example_lines (54 ∷ 50 ∷ []) (120 ∷ []) ++ (50 ∷ []) ∷ [])

abbrev pub counted_entries : List (Option ℤ)
counted_entries = Some (pos 0) ∷ None ∷ Some (pos 2) ∷ []

-- ITS KEYS IN BOTH COUNTINGS, read into a table `old`: what the calls answer, and what the text's own lines say
pub record BothCountings (old : List ℤ) : Type 0 where
  pub text : MappingText counted_text (example_kbm (pos 62)) counted_entries
  pub read : read_of (length old) counted_text ≡ gives (example_kbm (pos 62))
  -- 60 has the first entry from the reference key, and `x` from the middle key
  pub at60 : scale_degree_of (example_kbm (pos 62)) (after_read counted_text old) (key (pos 60)) ≡ gives (pos 0)
  pub middle60 : scale_degree_from_middle (example_kbm (pos 62)) (after_read counted_text old) (key (pos 60)) ≡ refuses unmapped_key 0
  -- 61 has `x`, and the third entry an octave down
  pub at61 : scale_degree_of (example_kbm (pos 62)) (after_read counted_text old) (key (pos 61)) ≡ refuses unmapped_key 0
  pub middle61 : scale_degree_from_middle (example_kbm (pos 62)) (after_read counted_text old) (key (pos 61)) ≡ gives (negsuc 2)
  -- 62 has the third entry, and the first
  pub at62 : scale_degree_of (example_kbm (pos 62)) (after_read counted_text old) (key (pos 62)) ≡ gives (pos 2)
  pub middle62 : scale_degree_from_middle (example_kbm (pos 62)) (after_read counted_text old) (key (pos 62)) ≡ gives (pos 0)
  -- which is what the lines say
  pub said62 : SaidOf reference_key text.values (entry_tokens text) (pos 62) (gives (pos 2))
  pub said_from_middle62 : SaidOf middle_key text.values (entry_tokens text) (pos 62) (gives (pos 0))
  -- so that each counting has a key without a degree that has one in the other
  pub silent61 : Silent reference_key text.values (entry_tokens text) (pos 61)
  pub sounds_from_middle61 : Silent middle_key text.values (entry_tokens text) (pos 61) → ⊥
  pub sounds60 : Silent reference_key text.values (entry_tokens text) (pos 60) → ⊥
  pub silent_from_middle60 : Silent middle_key text.values (entry_tokens text) (pos 60)

-- `1`, `-2147483648`, `2147483646`, `-2`, `-2`, `440.0`, `0`, `x`
abbrev pub far_text : List ℕ
far_text =
    lines_text
    ((49 ∷ []) ∷ (45 ∷ 50 ∷ 49 ∷ 52 ∷ 55 ∷ 52 ∷ 56 ∷ 51 ∷ 54 ∷ 52 ∷ 56 ∷ []) ∷ (50 ∷ 49 ∷ 52 ∷ 55 ∷ 52 ∷ 56 ∷ 51 ∷ 54 ∷ 52 ∷ 54 ∷ []) ∷ (45 ∷ 50 ∷ []) ∷ (45 ∷ 50 ∷ []) ∷
    (52 ∷ 52 ∷ 48 ∷ 46 ∷ 48 ∷ []) ∷ (48 ∷ []) ∷ (120 ∷ []) ∷ [])

abbrev pub far_kbm : Kbm
far_kbm =
    record {
      root = record { reference = key (negsuc 1); pitch = record { 0 = round binary64 false 440 1 }; offset = pos 0 };
      start = key (negsuc 2147483647);
      end = key (pos 2147483647);
      octave = pos 0;
      count = 1;
    }

-- ITS LAST KEY, read into a table `old`: inside the range, and the place reached has the token `x`, but its distance from the reference key is
-- 2147483648, so that 11 comes before 17
pub record FarKey (old : List ℤ) : Type 0 where
  pub text : MappingText far_text far_kbm (None ∷ [])
  pub read : read_of (length old) far_text ≡ gives far_kbm
  pub inside : Inside text.values (pos 2147483646)
  pub counted : Counts reference_key text.values (pos 2147483646) (pos 2147483648) 0
  pub cross : get_or (entry_tokens text) 0 [] ≡ 120 ∷ []
  pub not_silent : Silent reference_key text.values (entry_tokens text) (pos 2147483646) → ⊥
  pub answer : scale_degree_of far_kbm (after_read far_text old) (key (pos 2147483646)) ≡ refuses overflow 0

-- 440 Hz
abbrev pub a440 : Pitch
a440 = record { 0 = round binary64 false 440 1 }

-- THE ROUND TRIP: the mapping of 01's starred samples with 440 Hz and middle key 60 is of its types and comes back; that of 01's own input,
-- whose 261.6256 Hz are written as 261.626, does not
pub record Back : Type 0 where
  pub typed : TypedKbm (sample a440 (pos 0)) (table_of 3 sample_table)
  pub back : ComesBack (sample a440 (pos 0))
  pub not_back : ComesBack (example_kbm (pos 62)) → ⊥

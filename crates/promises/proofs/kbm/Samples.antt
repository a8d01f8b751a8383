-- Samples by document 01: its own input for `kbmcopy`, and the text at the ends of 32 bits, are read, and their keys answered; so is a text
-- whose countings differ (document 02, W1); a mapping that comes back, and one that does not. Assumes nothing.
use Rattle.std.specs.Prelude.{Some, None, Option}
use mathlib.Core.Path.{◌≡◌, refl, ap}
use mathlib.Core.Bool.{true, false}
use mathlib.Core.List.{List, [], ◌∷◌, ◌++◌}
use mathlib.Core.Logic.{inl, inr}
use Prim.Native.Nat.{ℕ, ◌^◌, ◌≤◌}
use native.Mathlib.Omega.{arith}
use lib.Dec.{lit<, lit≤}
use lib.Ieee.{Float, of_bits, round, le}
use lib.IntN.{ℤ, pos, negsuc}
use lib.ListN.{length}
use lib.Signed.{le_z_yes, lt_z_yes}
use Rattle.base.specs.Integers.{held}
use Rattle.base.specs.Said.{Said, gives}
use Rattle.numerals.specs.Scan.{spelled, scan_of}
use Rattle.numerals.specs.Scan as numerals
use Rattle.decimals.specs.DecimalScan.{read_decimal}
use Rattle.integers.specs.Integer.{scan, magnitude_of, read_signed}
use Rattle.integers.proofs.Language.{sound}
use Rattle.floats.specs.Units.{negative}
use Rattle.kbm.specs.Degree.{degree_at, scale_degree_of}
use Rattle.kbm.specs.Keys.{Lacks}
use Rattle.kbm.specs.Middle.{scale_degree_from_middle}
use Rattle.kbm.specs.Table.{entries_of}
use Rattle.kbm_read.specs.Language.{Required, Seen, required, unseen, see, Values, GiveAll, EntryText, Entries, Tokens, size_of, mapping_from, blanks, added, MappingText}
use Rattle.kbm_read.specs.Reader.{after_read}
use Rattle.kbm_read.proofs.Fields.{read_as, read_gives}
use Rattle.kbm_read.proofs.Language.{in_language}
use Rattle.key.specs.Keys.{key}
use Rattle.writing.specs.Lines.{lines_text}
use Rattle.text.specs.Cut.{lines}
use Rattle.text.specs.ReadLine.{token_length, meaning_by, meanings, said_in}
use Rattle.white.specs.Trim.{width_by, run}
use Rattle.utf8.specs.Utf8Machine.{lead_of, utf8_step}
use Rattle.utf8.specs.Utf8Machine as utf8
use Rattle.text.proofs.LineLanguage.{strict_text}
use Rattle.promises.specs.kbm.KeysOfText.{Silent}
use Rattle.promises.specs.kbm.Samples.{input_text, example_kbm, example_entries, CopyKeys, far_text, far_kbm, FarKey, Back}
use Rattle.promises.specs.kbm.Samples.{counted_text, counted_entries, BothCountings}
use Rattle.promises.proofs.kbm.KeysOfText.{other, no_degree, read_answers, text_says, text_lacks}
use Rattle.promises.proofs.kbm.KeysOfText.{read_answers_from_middle, text_says_from_middle, text_lacks_from_middle}

-- ---- A TEXT OF THE LANGUAGE, by computation
-- the values that the required lines are read as
abbrev ReadAll : Seen → (fs : List Required) → List (List ℕ) → Values fs → Type 0
ReadAll key [] [] vs = Unit {0}
ReadAll key [] (t ∷ ts) vs = ⊥
ReadAll key (f ∷ fs) [] vs = ⊥
ReadAll key (f ∷ fs) (t ∷ ts) vs = (read_as f key 0 t ≡ gives vs.0) × ReadAll (see f key vs.0) fs ts vs.1

all_read : (key : Seen) (fs : List Required) (ts : List (List ℕ)) (vs : Values fs) → ReadAll key fs ts vs → GiveAll key fs ts vs
all_read key [] [] vs r = tt
all_read key [] (t ∷ ts) vs r = absurd r
all_read key (f ∷ fs) [] vs r = absurd r
all_read key (f ∷ fs) (t ∷ ts) vs r = (read_gives f key 0 t vs.0 r.0, all_read (see f key vs.0) fs ts vs.1 r.1)

by_lines : (s : List ℕ) (first rest : List (List ℕ)) (vs : Values required) (es : List (Option ℤ)) → Tokens (said_in s) (first ++ rest) → ReadAll unseen required first vs → Entries rest es
    → length (added (size_of vs) es) ≤ 65535 → length es ≤ size_of vs → MappingText s (mapping_from vs) (added (size_of vs) es)
by_lines s first rest vs es t r e l c =
    record {
      says = said_in s;
      text = strict_text s;
      values = vs;
      given = es;
      lines = record { first = first; rest = rest; words = t; values = all_read unseen required first vs r; entries = e };
      not_large = l;
      consistent = c;
      mapping = refl;
      entries = refl;
    }

-- ---- 01'S OWN INPUT
copy_text : MappingText input_text (example_kbm (pos 62)) example_entries
unfolding lines_text lines meaning_by meanings token_length width_by run lead_of utf8_step utf8.utf8_from scan magnitude_of read_signed numerals.digit_run_of spelled scan_of read_decimal blanks round of_bits le
copy_text =
    by_lines input_text
    ((51 ∷ []) ∷ (48 ∷ []) ∷ (49 ∷ 50 ∷ 55 ∷ []) ∷ (54 ∷ 50 ∷ []) ∷ (54 ∷ 48 ∷ []) ∷ (50 ∷ 54 ∷ 49 ∷ 46 ∷ 54 ∷ 50 ∷ 53 ∷ 54 ∷ []) ∷ (53 ∷ []) ∷ []) ((48 ∷ []) ∷ (88 ∷ []) ∷ [])
    (3, (pos 0, (pos 127, (pos 62, (pos 60, ((example_kbm (pos 62)).root.pitch.0, (pos 5, tt))))))) (Some (pos 0) ∷ None ∷ [])
    (refl, (refl, (refl, (refl, (refl, (refl, (refl, (refl, (refl, tt))))))))) (refl, (refl, (refl, (refl, (refl, (refl, (refl, tt)))))))
    (EntryText.degree (pos 0) (sound true (2 ^ 15) (lit< tt) (pos 0) (48 ∷ []) refl), (EntryText.large refl, tt)) (lit≤ tt) (lit≤ tt)

-- the bytes of the input
pub copy_bytes : input_text ≡ 51 ∷ 10 ∷ 48 ∷ 10 ∷ 49 ∷ 50 ∷ 55 ∷ 10 ∷ 54 ∷ 50 ∷ 10 ∷ 54 ∷ 48 ∷ 10 ∷ 50 ∷ 54 ∷ 49 ∷ 46 ∷ 54 ∷ 50 ∷ 53 ∷ 54 ∷ 10 ∷ 53 ∷ 10 ∷ 48 ∷ 10 ∷ 88 ∷ 10 ∷ []
unfolding lines_text
copy_bytes = refl

pub copy_keys : (old : List ℤ) → 3 ≤ length old → CopyKeys old
unfolding by_lines copy_text degree_at held
copy_keys old room =
    record {
      text = copy_text;
      tokens = refl;
      read = in_language (length old) input_text copy_text room;
      low = read_answers copy_text old room (key (negsuc 0));
      at60 = read_answers copy_text old room (key (pos 60));
      at61 = read_answers copy_text old room (key (pos 61));
      at62 = read_answers copy_text old room (key (pos 62));
      at63 = read_answers copy_text old room (key (pos 63));
      high = read_answers copy_text old room (key (pos 128));
      cross = Silent.gap refl (pos 0) 1 (record { whole = refl; rest = lit< tt }) (inl (inr refl));
      left_out = Silent.gap refl (pos 0) 2 (record { whole = refl; rest = lit< tt }) (inr (lit≤ tt));
    }

-- ---- BOTH COUNTINGS
counted_text_law : MappingText counted_text (example_kbm (pos 62)) counted_entries
unfolding lines_text lines meaning_by meanings token_length width_by run lead_of utf8_step utf8.utf8_from scan magnitude_of read_signed
    numerals.digit_run_of spelled scan_of read_decimal blanks round of_bits le
counted_text_law =
    by_lines counted_text
    ((51 ∷ []) ∷ (48 ∷ []) ∷ (49 ∷ 50 ∷ 55 ∷ []) ∷ (54 ∷ 50 ∷ []) ∷ (54 ∷ 48 ∷ []) ∷
    (50 ∷ 54 ∷ 49 ∷ 46 ∷ 54 ∷ 50 ∷ 53 ∷ 54 ∷ []) ∷ (53 ∷ []) ∷ [])
    ((48 ∷ []) ∷ (120 ∷ []) ∷ (50 ∷ []) ∷ [])
    (3, (pos 0, (pos 127, (pos 62, (pos 60, ((example_kbm (pos 62)).root.pitch.0, (pos 5, tt))))))) counted_entries
    (refl, (refl, (refl, (refl, (refl, (refl, (refl, (refl, (refl, (refl, tt))))))))))
    (refl, (refl, (refl, (refl, (refl, (refl, (refl, tt))))))) (
      EntryText.degree (pos 0) (sound true (2 ^ 15) (lit< tt) (pos 0) (48 ∷ []) refl),
      (EntryText.small refl, (EntryText.degree (pos 2) (sound true (2 ^ 15) (lit< tt) (pos 2) (50 ∷ []) refl), tt)),
    ) (lit≤ tt) (lit≤ tt)

pub both_countings : (old : List ℤ) → 3 ≤ length old → BothCountings old
unfolding by_lines counted_text_law degree_at held
both_countings old room =
    record {
      text = counted_text_law;
      read = in_language (length old) counted_text counted_text_law room;
      at60 = here60;
      middle60 = read_answers_from_middle counted_text_law old room (key (pos 60));
      at61 = read_answers counted_text_law old room (key (pos 61));
      middle61 = there61;
      at62 = here62;
      middle62 = there62;
      said62 = (text_says counted_text_law old room (key (pos 62)) (gives (pos 2))).0 here62;
      said_from_middle62 = (text_says_from_middle counted_text_law old room (key (pos 62)) (gives (pos 0))).0 there62;
      silent61 = Silent.gap refl (pos 0) 1 (record { whole = refl; rest = lit< tt }) (inl (inl refl));
      sounds_from_middle61 = λ x. not_lacking there61 ((text_lacks_from_middle counted_text_law old room (key (pos 61))).1 x);
      sounds60 = λ x. not_lacking here60 ((text_lacks counted_text_law old room (key (pos 60))).1 x);
      silent_from_middle60 = Silent.gap refl (negsuc 0) 1 (record { whole = refl; rest = lit< tt }) (inl (inl refl));
    }
  where
    here60 : scale_degree_of (example_kbm (pos 62)) (after_read counted_text old) (key (pos 60)) ≡ gives (pos 0)
    here60 = read_answers counted_text_law old room (key (pos 60))

    there61 : scale_degree_from_middle (example_kbm (pos 62)) (after_read counted_text old) (key (pos 61)) ≡ gives (negsuc 2)
    there61 = read_answers_from_middle counted_text_law old room (key (pos 61))

    here62 : scale_degree_of (example_kbm (pos 62)) (after_read counted_text old) (key (pos 62)) ≡ gives (pos 2)
    here62 = read_answers counted_text_law old room (key (pos 62))

    there62 : scale_degree_from_middle (example_kbm (pos 62)) (after_read counted_text old) (key (pos 62)) ≡ gives (pos 0)
    there62 = read_answers_from_middle counted_text_law old room (key (pos 62))

    -- a degree is neither 16 nor 17
    not_lacking : {d : ℤ} {x : Said ℤ} → x ≡ gives d → Lacks x → ⊥
    not_lacking p (inl e) = no_degree p e
    not_lacking p (inr e) = no_degree p e

-- ---- THE ENDS OF 32 BITS
far_text_law : MappingText far_text far_kbm (None ∷ [])
unfolding lines_text lines meaning_by meanings token_length width_by run lead_of utf8_step utf8.utf8_from scan magnitude_of read_signed numerals.digit_run_of spelled scan_of read_decimal blanks round of_bits le
far_text_law =
    by_lines far_text
    ((49 ∷ []) ∷ (45 ∷ 50 ∷ 49 ∷ 52 ∷ 55 ∷ 52 ∷ 56 ∷ 51 ∷ 54 ∷ 52 ∷ 56 ∷ []) ∷ (50 ∷ 49 ∷ 52 ∷ 55 ∷ 52 ∷ 56 ∷ 51 ∷ 54 ∷ 52 ∷ 54 ∷ []) ∷ (45 ∷ 50 ∷ []) ∷ (45 ∷ 50 ∷ []) ∷
    (52 ∷ 52 ∷ 48 ∷ 46 ∷ 48 ∷ []) ∷ (48 ∷ []) ∷ []) ((120 ∷ []) ∷ [])
    (1, (negsuc 2147483647, (pos 2147483646, (negsuc 1, (negsuc 1, (far_kbm.root.pitch.0, (pos 0, tt))))))) (None ∷ [])
    (refl, (refl, (refl, (refl, (refl, (refl, (refl, (refl, tt)))))))) (refl, (refl, (refl, (refl, (refl, (refl, (refl, tt)))))))
    (EntryText.small refl, tt) (lit≤ tt) (lit≤ tt)

pub far_key : (old : List ℤ) → 1 ≤ length old → FarKey old
unfolding by_lines far_text_law degree_at held
far_key old room =
    record {
      text = far_text_law;
      read = in_language (length old) far_text far_text_law room;
      inside = (le_z_yes tt, le_z_yes tt);
      counted = record { whole = refl; rest = lit< tt };
      cross = refl;
      not_silent = λ x. not_lacking ((text_lacks far_text_law old room (key (pos 2147483646))).1 x);
      answer = read_answers far_text_law old room (key (pos 2147483646));
    }
  where
    -- 11 is neither 16 nor 17
    not_lacking : Lacks (scale_degree_of far_kbm (after_read far_text old) (key (pos 2147483646))) → ⊥
    not_lacking (inl e) = other (read_answers far_text_law old room (key (pos 2147483646))) e (λ f. omega arith)
    not_lacking (inr e) = other (read_answers far_text_law old room (key (pos 2147483646))) e (λ f. omega arith)

-- ---- THE ROUND TRIP
pub sample_back : Back
unfolding entries_of round of_bits le negative
sample_back =
    record {
      typed =
          record {
            start = refl;
            end = refl;
            reference = refl;
            pitch = refl;
            octave = refl;
            size = lit≤ tt;
            last = refl;
            middle = refl;
            degrees = (refl, (tt, (refl, tt)));
            counted = refl;
          };
      back = record { forward = lt_z_yes tt; reference = refl; middle = refl; pitch = refl };
      not_back = λ c. no_test (ap (λ (x : Float). le x (example_kbm (pos 62)).root.pitch.0) c.pitch);
    }
  where
    no_test : false ≡ true → ⊥
    no_test e = let z : ◌≡◌ {A = ℕ} 0 1 = cc in omega arith

-- The example with small `x`, with middle key 62 and with 60, is a text of the published format and within document 01's limits; it is
-- read, and its keys answered as published: with 62 counted from the middle key, with 60 by 01. Assumes nothing.
use mathlib.Core.Path.{◌≡◌, refl, sym, ◌∙◌}
use mathlib.Core.Bool.{Bool, true, ◌&&◌}
use mathlib.Core.List.{List, [], ◌∷◌, append-nil}
use mathlib.Core.Logic.{inl}
use Prim.Native.Nat.{ℕ, ◌≤◌, ◌<◌}
use native.Mathlib.Omega.{arith}
use lib.Dec.{lit<, lit≤}
use lib.Ieee.{of_bits, round, le}
use lib.IntN.{ℤ, pos, negsuc, ◌-ℤ◌}
use lib.ListN.{length}
use lib.Signed.{le_z_yes, lt_z_yes, clash_ℤ}
use Rattle.base.specs.Integers.{Divides, in_i32}
use Rattle.base.proofs.Division.{divides_one}
use Rattle.integers.specs.Digits.{is_digit, AllDigits, decimal}
use Rattle.integers.proofs.Digits.{digit_is}
use Rattle.kbm.specs.Table.{in_i16}
use Rattle.kbm.specs.declared.Kbm.{Kbm}
use Rattle.kbm.proofs.Entries.{and_both}
use Rattle.key.specs.Keys.{key}
use Rattle.writing.specs.Lines.{lines_text}
use Rattle.kbm_write.specs.Published as P
use Rattle.utf8.specs.Characters.{Utf8}
use Rattle.text.specs.Cut.{lines}
use Rattle.utf8.specs.Utf8Machine.{lead_of, utf8_step}
use Rattle.utf8.specs.Utf8Machine as utf8
use Rattle.text.proofs.LinesLanguage.{the_lines}
use Rattle.utf8.proofs.Utf8Language.{accepts}
use Rattle.promises.specs.kbm.Limits.{WithinLimits}
use Rattle.promises.specs.kbm.Samples.{example_lines, example_text, middle_text, example_mapping, MiddleKeys, ExampleKeys}
use Rattle.promises.specs.kbm.Sounding.{SoundsWithin}
use Rattle.promises.proofs.kbm.SameKeys.{not_mapped}
use Rattle.promises.proofs.kbm.Sounding.{read_sounds}

-- digits, by a test
abbrev all_digits : List ℕ → Bool
all_digits [] = true
all_digits (b ∷ s) = is_digit b && all_digits s

digits : (s : List ℕ) → all_digits s ≡ true → AllDigits s
digits [] h = tt
digits (b ∷ s) h = let p = and_both (is_digit b) (all_digits s) h in (digit_is b p.0, digits s p.1)

-- a value alone on its line
alone : (t : List ℕ) → P.Stands t t
alone t = record { before = []; rest = []; whole = sym (append-nil t); blank = tt; ends = tt }

whole : (t : List ℕ) (n : ℕ) → 0 < length t → all_digits t ≡ true → n ≡ decimal t → P.Whole t (pos n)
whole t n l h e = P.Whole.plain n (record { some = l; each = digits t h; writes = e }) refl

number : (t : List ℕ) (n : ℕ) → 0 < length t → all_digits t ≡ true → n ≡ decimal t → P.Number t (pos n)
number t n l h e = record { token = t; stands = alone t; value = whole t n l h e }

-- the bytes of the example
pub example_bytes : example_text ≡ 51 ∷ 10 ∷ 48 ∷ 10 ∷ 49 ∷ 50 ∷ 55 ∷ 10 ∷ 54 ∷ 50 ∷ 10 ∷ 54 ∷ 48 ∷ 10 ∷ 50 ∷ 54 ∷ 49 ∷ 46 ∷ 54 ∷ 50 ∷ 53 ∷ 54 ∷ 10 ∷ 53 ∷ 10 ∷ 48 ∷ 10 ∷ 120 ∷ 10 ∷ []
unfolding lines_text
example_bytes = refl

-- ---- the lines, with a middle key n
abbrev parts : List ℕ → List (List ℕ)
parts middle = example_lines middle (120 ∷ [])

module _ (middle : List ℕ) (n : ℕ) (cut : lines (lines_text (parts middle)) ≡ parts middle) (c : P.PublishedComment middle → ⊥) (x : P.Number middle (pos n)) where
  with_middle : P.PublishedText (lines_text (parts middle)) (example_mapping (pos n))
  with_middle =
      record {
        l1 = 51 ∷ [];
        l2 = 48 ∷ [];
        l3 = 49 ∷ 50 ∷ 55 ∷ [];
        l4 = middle;
        l5 = 54 ∷ 48 ∷ [];
        l6 = 50 ∷ 54 ∷ 49 ∷ 46 ∷ 54 ∷ 50 ∷ 53 ∷ 54 ∷ [];
        l7 = 53 ∷ [];
        parts = parts middle;
        rest = (48 ∷ []) ∷ (120 ∷ []) ∷ [];
        lines = rw cut at (the_lines (lines_text (parts middle)));
        keeps = all_kept;
        size = number (51 ∷ []) 3 (lit< tt) refl refl;
        first = number (48 ∷ []) 0 (lit< tt) refl refl;
        last = number (49 ∷ 50 ∷ 55 ∷ []) 127 (lit< tt) refl refl;
        middle = x;
        reference = number (54 ∷ 48 ∷ []) 60 (lit< tt) refl refl;
        frequency =
            record {
              token = 50 ∷ 54 ∷ 49 ∷ 46 ∷ 54 ∷ 50 ∷ 53 ∷ 54 ∷ [];
              stands = alone (50 ∷ 54 ∷ 49 ∷ 46 ∷ 54 ∷ 50 ∷ 53 ∷ 54 ∷ []);
              value =
                  record {
                    whole = 50 ∷ 54 ∷ 49 ∷ [];
                    part = 54 ∷ 50 ∷ 53 ∷ 54 ∷ [];
                    digits = record { first = digits (50 ∷ 54 ∷ 49 ∷ []) refl; second = digits (54 ∷ 50 ∷ 53 ∷ 54 ∷ []) refl; some = lit< tt; writes = inl refl };
                    value = refl;
                    places = refl;
                  };
            };
        octave = number (53 ∷ []) 5 (lit< tt) refl refl;
        degrees = (
          (48 ∷ [], alone (48 ∷ []), P.Degree.degree (pos 0) (whole (48 ∷ []) 0 (lit< tt) refl refl)),
          ((120 ∷ [], alone (120 ∷ []), P.Degree.cross refl), tt),
        );
        most = lit≤ tt;
      }
    where
      no_mark : (b : ℕ) (l : List ℕ) → 33 < b → P.PublishedComment (b ∷ l) → ⊥
      no_mark b l h e = omega arith

      all_kept : P.Kept (parts middle) (parts middle)
      all_kept =
          P.Kept.kept (no_mark 51 [] (lit< tt))
          (P.Kept.kept (no_mark 48 [] (lit< tt))
          (P.Kept.kept (no_mark 49 (50 ∷ 55 ∷ []) (lit< tt))
          (P.Kept.kept c
          (P.Kept.kept (no_mark 54 (48 ∷ []) (lit< tt))
          (P.Kept.kept (no_mark 50 (54 ∷ 49 ∷ 46 ∷ 54 ∷ 50 ∷ 53 ∷ 54 ∷ []) (lit< tt))
          (P.Kept.kept (no_mark 53 [] (lit< tt)) (P.Kept.kept (no_mark 48 [] (lit< tt)) (P.Kept.kept (no_mark 120 [] (lit< tt)) P.Kept.none))))))))

  -- within the limits, where the middle key is
  middle_within : Utf8 middle → in_i16 (pos n) ≡ true → WithinLimits with_middle
  unfolding with_middle number lead_of utf8_step utf8.utf8_from round of_bits le
  middle_within u i =
      record {
        utf8 = (
          (accepts (51 ∷ [])).0 refl,
          (
            (accepts (48 ∷ [])).0 refl,
            (
              (accepts (49 ∷ 50 ∷ 55 ∷ [])).0 refl,
              (
                u,
                (
                  (accepts (54 ∷ 48 ∷ [])).0 refl,
                  (
                    (accepts (50 ∷ 54 ∷ 49 ∷ 46 ∷ 54 ∷ 50 ∷ 53 ∷ 54 ∷ [])).0 refl,
                    ((accepts (53 ∷ [])).0 refl, ((accepts (48 ∷ [])).0 refl, ((accepts (120 ∷ [])).0 refl, tt))),
                  ),
                ),
              ),
            ),
          ),
        );
        size = lit≤ tt;
        unsigned = λ t e. not_minus t e;
        first = refl;
        last = refl;
        before_end = λ e. not_largest e;
        forward = le_z_yes tt;
        middle = i;
        reference = refl;
        digits = lit≤ tt;
        places = lit≤ tt;
        pitch = refl;
        octave = refl;
        degrees = (refl, (tt, tt));
      }
    where
      not_minus : (t : List ℕ) → 51 ∷ [] ≡ 45 ∷ t → ⊥
      not_minus t e = let z : ◌≡◌ {A = ℕ} 51 45 = cc in omega arith

      not_largest : ◌≡◌ {A = ℤ} (pos 127) (pos 2147483647) → ⊥
      not_largest e = let z : ◌≡◌ {A = ℕ} 127 2147483647 = cc in omega arith

-- with middle key 62
pub example_published : P.PublishedText example_text (example_mapping (pos 62))
unfolding lines_text lines
example_published = with_middle (54 ∷ 50 ∷ []) 62 refl (λ e. omega arith) (number (54 ∷ 50 ∷ []) 62 (lit< tt) refl refl)

pub example_within : WithinLimits example_published
unfolding lines_text lines example_published lead_of utf8_step utf8.utf8_from
example_within = middle_within (54 ∷ 50 ∷ []) 62 refl (λ e. omega arith) (number (54 ∷ 50 ∷ []) 62 (lit< tt) refl refl) ((accepts (54 ∷ 50 ∷ [])).0 refl) refl

-- with middle key 60, the reference key
pub middle_published : P.PublishedText middle_text (example_mapping (pos 60))
unfolding lines_text lines
middle_published = with_middle (54 ∷ 48 ∷ []) 60 refl (λ e. omega arith) (number (54 ∷ 48 ∷ []) 60 (lit< tt) refl refl)

pub middle_limits : WithinLimits middle_published
unfolding lines_text lines middle_published lead_of utf8_step utf8.utf8_from
middle_limits = middle_within (54 ∷ 48 ∷ []) 60 refl (λ e. omega arith) (number (54 ∷ 48 ∷ []) 60 (lit< tt) refl refl) ((accepts (54 ∷ 48 ∷ [])).0 refl) refl

-- ---- read, and keys answered as published: by `read_sounds`
-- 128 is not retuned
high : (n : ℤ) → P.Retuned (example_mapping n) (pos 128) → ⊥
high n t = clash_ℤ (lt_z_yes tt) t.1

-- a key of the example that sounds d
within : (n z d : ℤ) → P.Retuned (example_mapping n) z → in_i32 (z -ℤ n) ≡ true → in_i32 d ≡ true → P.Sounds (example_mapping n) z d →
    SoundsWithin (example_mapping n) z d
within n z d r near held sounds = record { retuned = r; near = near; held = held; sounds = sounds }

-- where counting reaches the second entry, which is unmapped, none sounds
silent : (n z q : ℤ) → Divides (z -ℤ n) 3 q 1 → (d : ℤ) → P.Sounds (example_mapping n) z d → ⊥
silent n z q c d (P.Sounds.linear l e) = omega arith
silent n z q c d (P.Sounds.pattern x r y k f e) = not_mapped (example_mapping n) ((divides_one k).1 ∙ sym (divides_one c).1) refl f

-- with middle key 62, counted from it
pub example_keys : (old : List ℤ) → 3 ≤ length old → (k : Kbm) × ExampleKeys k old
example_keys old room =
    let r = read_sounds example_published example_within old room in
    let key_is = r.2 in (
      r.0,
      record {
        read = r.1;
        here62 = ((key_is (key (pos 62))).degree (pos 0)).1 (within _ _ _ (le_z_yes tt, le_z_yes tt) refl refl first);
        there62 = first;
        here65 = ((key_is (key (pos 65))).degree (pos 5)).1 (within _ _ _ (le_z_yes tt, le_z_yes tt) refl refl five);
        there65 = five;
        here60 = (key_is (key (pos 60))).silent.1 (record { retuned = (le_z_yes tt, le_z_yes tt); within = refl; silent = none });
        there60 = none;
        here128 = (key_is (key (pos 128))).outside.1 (high (pos 62));
        there128 = high (pos 62);
      },
    )
  where
    first : P.Sounds (example_mapping (pos 62)) (pos 62) (pos 0)
    first = P.Sounds.pattern (pos 0) 0 (pos 0) (record { whole = refl; rest = lit< tt }) refl refl

    -- 3 is once 3 and 0 more: the first entry, an octave up
    five : P.Sounds (example_mapping (pos 62)) (pos 65) (pos 5)
    five = P.Sounds.pattern (pos 1) 0 (pos 0) (record { whole = refl; rest = lit< tt }) refl refl

    -- -2 is -1 times 3 and 1 more
    none : (d : ℤ) → P.Sounds (example_mapping (pos 62)) (pos 60) d → ⊥
    none = silent (pos 62) (pos 60) (negsuc 0) (record { whole = refl; rest = lit< tt })

-- with middle key 60, the reference key, by 01
pub middle_keys : (old : List ℤ) → 3 ≤ length old → (k : Kbm) × MiddleKeys k old
middle_keys old room =
    let r = read_sounds middle_published middle_limits old room in
    let key_is = r.3 refl in (
      r.0,
      record {
        read = r.1;
        here63 = ((key_is (key (pos 63))).degree (pos 5)).1 (within _ _ _ (le_z_yes tt, le_z_yes tt) refl refl five);
        there63 = five;
        here61 = (key_is (key (pos 61))).silent.1 (record { retuned = (le_z_yes tt, le_z_yes tt); within = refl; silent = none });
        there61 = none;
        here128 = (key_is (key (pos 128))).outside.1 (high (pos 60));
        there128 = high (pos 60);
      },
    )
  where
    -- 3 is once 3 and 0 more: the first entry, an octave up
    five : P.Sounds (example_mapping (pos 60)) (pos 63) (pos 5)
    five = P.Sounds.pattern (pos 1) 0 (pos 0) (record { whole = refl; rest = lit< tt }) refl refl

    -- 1 is 0 times 3 and 1 more
    none : (d : ℤ) → P.Sounds (example_mapping (pos 60)) (pos 61) d → ⊥
    none = silent (pos 60) (pos 61) (pos 0) (record { whole = refl; rest = lit< tt })

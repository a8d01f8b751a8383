-- The lines of a scale's items: each by its kind, and one after another. Assumes nothing.
use Rattle.std.specs.Prelude.{Some, None}
use mathlib.Core.Path.{◌≡◌, ◌∙◌}
use mathlib.Core.Bool.{true}
use mathlib.Core.List.{List, [], ◌∷◌, ◌++◌, append_assoc}
use Prim.Native.Nat.{ℕ, ◌+◌, ◌≤◌, ◌<◌}
use native.Mathlib.Numerals.{add-one}
use native.Mathlib.Omega.{arith}
use lib.Dec.{T, lit≤}
use lib.IntN.{pos}
use lib.ListN.{length, get_or, drop, length-append, drop_of_length-le}
use lib.Seq.{sets, drop-cons}
use lib.Ieee.{Float, neg, le, of_bits}
use Rattle.printing.specs.PrintText.{limited, whole_text}
use Rattle.printing.proofs.Limits.{limited_between}
use Rattle.printing.proofs.Texts.{sets_append}
use Rattle.writing.specs.Lines.{line, lines_text, number_text}
use Rattle.writing.proofs.Lines.{length_number, number_short, decimal_short, step_length, step_sets}
use Rattle.scl.specs.Items.{most_cents, is_usable_cents, is_usable}
use Rattle.scl.specs.Table.{ItemTable, no_item, items_in, are_usable, is_items}
use Rattle.scl.specs.declared.Item.{Item}
use Rattle.scl.specs.declared.Item.TheVariants.{Cents, Fraction}
use Rattle.scl.proofs.Table.{both, length_first, first_at, usable_at, items_roomy, items_usable}
use Rattle.scl_write.specs.Export.{standing, item_text, item_texts, listed_in}

-- usable cents are printed
pub cents_limited : (c : Float) → is_usable_cents c ≡ true → T (limited c)
unfolding of_bits neg
cents_limited c h = let t = both (le (neg most_cents) c) (le c most_cents) h in limited_between 75 9 c (lit≤ tt) t.0 t.1

-- a fraction's line: the numerator and a slash, the denominator and LF
pub fraction_line : (n d : ℕ) → line (item_text (Fraction n (Some d))) ≡ number_text n 47 ++ number_text d 10
fraction_line n d = append_assoc (number_text n 47) (whole_text (pos d)) (10 ∷ [])

pub fraction_length : (n d : ℕ) → length (line (item_text (Fraction n (Some d)))) ≡ length (whole_text (pos n)) + 1 + (length (whole_text (pos d)) + 1)
fraction_length n d = rw (fraction_line n d) (omega (arith, length-append (number_text n 47) (number_text d 10), length_number n 47, length_number d 10))

pub fraction_sets : (n d : ℕ) (l m o : List ℕ) (at next : ℕ) → m ≡ sets l at (number_text n 47) → next ≡ at + length (number_text n 47) → o ≡ sets m next (number_text d 10)
    → o ≡ sets l at (line (item_text (Fraction n (Some d))))
fraction_sets n d l m o at next e p f = f ∙ rw (fraction_line n d, e) (sets_append l at next (number_text n 47) (number_text d 10) p)

-- how long an item's line is at most, whatever its numbers
pub item_short : (i : Item) → length (line (item_text i)) ≤ 40
item_short (Cents c) = omega (arith, decimal_short 3 c (lit≤ tt))
item_short (Fraction n (Some d)) = omega (arith, fraction_length n d, length_number n 47, number_short n 47, length_number d 10, number_short d 10)
item_short (Fraction n None) = omega (arith, number_short n 10)

-- the lines of the items from a place on
abbrev pub left : ℕ → ItemTable → ℕ → List ℕ
left count t i = lines_text (item_texts (drop i (items_in count t)))

module _ (count : ℕ) (t : ItemTable) (h : is_items count t ≡ true) where
  pub length_in : length (items_in count t) ≡ count + 1
  length_in = length_first (count + 1) t (items_roomy count t h)

  module _ (i : ℕ) (l : i ≤ count) where
    at_place : get_or (items_in count t) i no_item ≡ standing t i
    at_place = first_at (count + 1) t (items_roomy count t h) i (omega (arith, l))

    inside : i < length (items_in count t)
    inside = omega (arith, length_in, l)

    -- each can be used
    pub standing_usable : is_usable (standing t i) ≡ true
    standing_usable = rw at_place at (usable_at (items_in count t) i (items_usable count t h) inside)

    -- the line of the item at that place, and those from the next place on
    pub left_step : left count t i ≡ line (item_text (standing t i)) ++ left count t (i + 1)
    unfolding lines_text item_texts
    left_step = rw (add-one i, drop-cons (items_in count t) i no_item inside, at_place)

    pub left_length : length (left count t i) ≡ length (line (item_text (standing t i))) + length (left count t (i + 1))
    left_length = step_length (left count t i) (item_text (standing t i)) (left count t (i + 1)) left_step

    pub left_sets : (b m : List ℕ) (at next : ℕ) → m ≡ sets b at (line (item_text (standing t i))) → next ≡ at + length (line (item_text (standing t i))) → sets m next (left count t (i + 1)) ≡ sets b at (left count t i)
    left_sets = step_sets (left count t i) (item_text (standing t i)) (left count t (i + 1)) left_step

  -- past the last item nothing is left
  pub left_end : (i : ℕ) → count < i → left count t i ≡ []
  unfolding lines_text item_texts
  left_end i l = rw (drop_of_length-le (items_in count t) {i = i} (omega (arith, length_in, l)))

  -- as many are written as the scale counts, and each can be used
  pub length_listed : length (listed_in count t) ≡ count
  length_listed = go (items_in count t) length_in
    where
      go : (is : List Item) → length is ≡ count + 1 → length (drop 1 is) ≡ count
      go [] e = omega (arith, e)
      go (i ∷ is) e = omega (arith, e)

  pub listed_usable : are_usable (listed_in count t) ≡ true
  unfolding are_usable
  listed_usable = go (items_in count t) (items_usable count t h)
    where
      go : (is : List Item) → are_usable is ≡ true → are_usable (drop 1 is) ≡ true
      go [] e = e
      go (i ∷ is) e = (both (is_usable i) (are_usable is) e).1

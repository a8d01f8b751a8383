-- The items of an export, read again: each one's text is that item exactly when its cents come back. Assumes nothing.
use Rattle.std.specs.Prelude.{Some, None}
use mathlib.Core.Path.{◌≡◌, refl, sym, ◌∙◌, subst}
use mathlib.Core.Bool.{true, false}
use mathlib.Core.List.{List, [], ◌∷◌, ◌++◌, append_assoc}
use Prim.Native.Nat.{ℕ, ◌^◌, ◌<◌}
use native.Mathlib.Omega.{arith}
use lib.Dec.{lit<}
use lib.Ieee.{Float}
use lib.IntN.{pos}
use Rattle.decimals.specs.DecimalText.{DecimalText}
use Rattle.decimals.proofs.Language.{one_reading}
use Rattle.floats.specs.Units.{negative}
use Rattle.integers.specs.Digits.{AllDigits}
use Rattle.listing.specs.Listing.{Words, Entries}
use Rattle.printing.specs.PrintText.{sign_text, text_of, whole_text}
use Rattle.printing.proofs.Form.{printed}
use Rattle.scl.specs.Items.{is_usable_cents, is_usable, Held, AllHeld}
use Rattle.scl.specs.Table.{are_usable}
use Rattle.scl.specs.declared.Item.{Item}
use Rattle.scl.specs.declared.Item.TheVariants.{Cents, Fraction}
use Rattle.scl.proofs.Items.{usable_fraction}
use Rattle.scl.proofs.Table.{both}
use Rattle.scl_read.specs.ItemText.{Contains, Free, U32Text, ItemText}
use Rattle.scl_read.specs.Language.{ContentLine, scale}
use Rattle.scl_write.specs.Export.{item_text, item_texts}
use Rattle.scl_write.proofs.Bound.{cents_few}
use Rattle.scl_write.proofs.ItemLines.{cents_limited}
use Rattle.writing.specs.Lines.{number_text}
use Rattle.writing.specs.Thousandths.{nearest_three}
use Rattle.writing.proofs.Plain.{each_append, selves}
use Rattle.writing.proofs.Printed.{size_reads, three_reads}
use Rattle.writing.proofs.PublishedValues.{number_digits}
use Rattle.promises.specs.scl.Again.{ItemBack, ItemsBack}

-- ---- an item's text
-- printed cents are a decimal with a dot
cents_reads : (c : Float) → is_usable_cents c ≡ true → DecimalText (text_of 3 false c) (nearest_three c)
cents_reads c h = three_reads c (cents_limited c h) (omega (arith, cents_few c h))

cents_dot : (c : Float) → is_usable_cents c ≡ true → Contains 46 (text_of 3 false c)
cents_dot c h =
    let f = (printed 3 false c (cents_limited c h)).is in
    (sign_text (negative c) false ++ f.whole, f.part, f.text ∙ sym (append_assoc (sign_text (negative c) false) f.whole (46 ∷ f.part)))

-- a printed number is a u32 without dot and slash
pub free_digits : (b : ℕ) (t : List ℕ) → b < 48 → AllDigits t → Free b t
free_digits b [] l a = tt
free_digits b (c ∷ t) l a = (λ e. omega (arith, e, l, a.0), free_digits b t l a.1)

module _ (n : ℕ) (h : n < 2 ^ 32) where
  number_reads : U32Text (whole_text (pos n)) n
  number_reads = size_reads (2 ^ 32) n h (lit< tt)

  number_free : (b : ℕ) → b < 48 → Free b (whole_text (pos n))
  number_free b l = free_digits b (whole_text (pos n)) l (number_digits n (omega (arith, h))).each

-- the item that comes back is the one that its text is
pub item_back : (i : Item) → Held i → is_usable i ≡ true → ItemBack i → ItemText (item_text i) i
item_back (Cents c) f h b = ItemText.cents (cents_dot c h) c (subst (DecimalText (text_of 3 false c)) b (cents_reads c h)) h
item_back (Fraction n (Some d)) f h b =
    let p = usable_fraction n (Some d) h in
    let P : ℕ → Type 0 = λ c. c ≡ 46 → ⊥ in
    ItemText.fraction (whole_text (pos n)) (whole_text (pos d))
    (record {
      no_dot = each_append P (number_text n 47) (whole_text (pos d)) (each_append P (whole_text (pos n)) (47 ∷ []) (number_free n f.0 46 (omega arith)) (λ e. omega (arith, e), tt)) (number_free d f.1 46 (omega arith));
      whole = append_assoc (whole_text (pos n)) (47 ∷ []) (whole_text (pos d));
      first = number_free n f.0 47 (omega arith);
    }) n d (number_reads n f.0) (number_reads d f.1) p.0 p.1
item_back (Fraction n None) f h b =
    let p = usable_fraction n None h in
    ItemText.whole (number_free n f.0 46 (omega arith)) (number_free n f.0 47 (omega arith)) n (number_reads n f.0) p.0

-- and the other way round
abbrev pub Decimal : List ℕ → Item → Type 0
Decimal t (Cents c) = DecimalText t c
Decimal t (Fraction n d) = Unit {0}

pub decimal_of : {t : List ℕ} {i : Item} → ItemText t i → Decimal t i
decimal_of (ItemText.cents h v d u) = d
decimal_of (ItemText.fraction a b s n d u v p q) = tt
decimal_of (ItemText.whole f g n u p) = tt

back_item : (i : Item) → is_usable i ≡ true → ItemText (item_text i) i → ItemBack i
back_item (Cents c) h t = one_reading (text_of 3 false c) (nearest_three c) c (cents_reads c h) (decimal_of t)
back_item (Fraction n d) h t = tt

-- ---- all of them, as words of the format
unfoldable pub words_of : List (List ℕ) → List ContentLine
words_of [] = []
words_of (t ∷ ts) = record { whole = t; token = t } ∷ words_of ts

pub entries_back : (is : List Item) → AllHeld is → are_usable is ≡ true → ItemsBack is → Entries scale (words_of (item_texts is)) is
unfolding words_of item_texts are_usable
entries_back [] f h b = tt
entries_back (i ∷ is) f h b = let u = both (is_usable i) (are_usable is) h in (item_back i f.0 u.0 b.0, entries_back is f.1 u.1 b.1)

pub back_entries : (is : List Item) → are_usable is ≡ true → Entries scale (words_of (item_texts is)) is → ItemsBack is
unfolding words_of item_texts are_usable
back_entries [] h e = tt
back_entries (i ∷ is) h e = let u = both (is_usable i) (are_usable is) h in (back_item i u.0 e.0, back_entries is u.1 e.1)

-- the words that lines of words have, and no others
pub words_of_law : (ts : List (List ℕ)) → Words scale (selves ts) (words_of ts)
unfolding words_of selves
words_of_law [] = tt
words_of_law (t ∷ ts) = (refl, words_of_law ts)

pub only_words : (ts : List (List ℕ)) (ws : List ContentLine) → Words scale (selves ts) ws → ws ≡ words_of ts
unfolding words_of selves
only_words [] [] w = refl
only_words [] (v ∷ ws) w = absurd w
only_words (t ∷ ts) [] w = absurd w
only_words (t ∷ ts) (v ∷ ws) w = let a = w.0 in let b = only_words ts ws w.1 in cc

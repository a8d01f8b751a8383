-- Where the two formats part: a text with a blank description, in both, with other notes; and a value with something after it, which is
-- published alone. Assumes nothing.
use Rattle.std.specs.Prelude.{Some}
use mathlib.Core.Path.{◌≡◌, refl, ◌∙◌}
use mathlib.Core.Bool.{true}
use mathlib.Core.List.{List, [], ◌∷◌}
use Prim.Native.Nat.{◌^◌}
use native.Mathlib.Omega.{arith}
use lib.Dec.{lit<, lit≤}
use lib.IntN.{pos}
use Rattle.base.specs.Said.{gives}
use Rattle.scl.specs.Items.{AllHeld}
use Rattle.scl.specs.Table.{implicit, are_usable}
use Rattle.scl.specs.declared.Item.{Item}
use Rattle.scl.specs.declared.Item.TheVariants.{Fraction}
use Rattle.integers.specs.Integer.{scan, magnitude_of, read_signed}
use Rattle.listing.specs.Reader.{walk_lines}
use Rattle.scl_read.specs.Language.{ScaleText}
use Rattle.scl_read.specs.Reader.{take_token}
use Rattle.scl_read.specs.Tokens.{position_of, item_in}
use Rattle.scl_read.proofs.Usable.{implicit_usable, implicit_held}
use Rattle.scl_tables.specs.Build.{scale_of}
use Rattle.scl_tables.proofs.Theorems.{one_item_never, list_given}
use Rattle.scl_write.specs.Published as P
use Rattle.scl_write.proofs.Published.{leads_alone}
use Rattle.sorting.specs.Entries.{Entry}
use Rattle.text.specs.Cut.{lines}
use Rattle.text.specs.ReadLine.{token_length, meaning_by, meanings, said_in}
use Rattle.text.proofs.LineLanguage.{strict_text}
use Rattle.text.proofs.LinesLanguage.{the_lines}
use Rattle.utf8.specs.Utf8Machine.{lead_of, utf8_step, utf8_from}
use Rattle.white.specs.Trim.{width_by, run}
use Rattle.writing.specs.PublishedLines.{Kept}
use Rattle.writing.proofs.Printed.{size_reads}
use Rattle.writing.proofs.PublishedValues.{number_digits, number}
use Rattle.promises.specs.scl.Samples.{blank_text, blank_scale, Parting, followed_text, Following}
use Rattle.promises.proofs.scl.ItemsBack.{item_back}

as_published : P.PublishedText blank_text blank_scale
unfolding lines
as_published =
    record {
      parts = lines blank_text;
      count = 50 ∷ [];
      rest = (49 ∷ []) ∷ (51 ∷ 47 ∷ 50 ∷ []) ∷ [];
      lines = the_lines blank_text;
      keeps = Kept.kept {l = []} (λ c. c) (Kept.kept {l = 50 ∷ []} (λ c. omega (arith, c)) (Kept.kept {l = 49 ∷ []} (λ c. omega (arith, c)) (Kept.kept {l = 51 ∷ 47 ∷ 50 ∷ []} (λ c. omega (arith, c)) Kept.none)));
      notes = number (pos 2) (lit< tt);
      values = (
        (49 ∷ [], leads_alone (49 ∷ []), P.PitchText.whole 1 (number_digits 1 (lit< tt)) (lit< tt)),
        ((51 ∷ 47 ∷ 50 ∷ [], leads_alone (51 ∷ 47 ∷ 50 ∷ []), P.PitchText.ratio (51 ∷ []) (50 ∷ []) 3 2 refl (number_digits 3 (lit< tt)) (number_digits 2 (lit< tt)) (lit< tt) (lit< tt)), tt),
      );
    }

-- the one note that document 01 reads
abbrev fifth : List Item
fifth = Fraction 3 (Some 2) ∷ []

fifth_usable : are_usable (implicit ∷ fifth) ≡ true
unfolding are_usable
fifth_usable = rw implicit_usable refl

fifth_sorted : (list : List Entry) × (scale_of (implicit ∷ fifth) ≡ gives list)
fifth_sorted =
    let h : AllHeld (implicit ∷ fifth) = (implicit_held, ((lit< tt, lit< tt), tt)) in
    let (list, e) = list_given (implicit ∷ fifth) (lit< tt) h fifth_usable in
    (list, one_item_never (implicit ∷ fifth) (lit< tt) h fifth_usable (lit< tt) ∙ e)

read_here : (list : List Entry) → scale_of (implicit ∷ fifth) ≡ gives list → ScaleText blank_text (50 ∷ []) fifth list
unfolding lines meaning_by meanings token_length width_by run lead_of utf8_step utf8_from
read_here list e =
    record {
      says = said_in blank_text;
      text = strict_text blank_text;
      values = (50 ∷ [], (1, tt));
      lines =
          record {
            first = record { whole = 50 ∷ []; token = 50 ∷ [] } ∷ record { whole = 49 ∷ []; token = 49 ∷ [] } ∷ [];
            rest = record { whole = 51 ∷ 47 ∷ 50 ∷ []; token = 51 ∷ 47 ∷ 50 ∷ [] } ∷ [];
            words = (refl, (refl, (refl, tt)));
            values = (refl, (size_reads (2 ^ 16) 1 (lit< tt) (lit< tt), tt));
            entries = (item_back (Fraction 3 (Some 2)) (lit< tt, lit< tt) refl tt, tt);
          };
      not_large = lit≤ tt;
      consistent = refl;
      described = refl;
      sorted = e;
    }

pub parting : Parting
parting = let (list, e) = fifth_sorted in record { published = as_published; list = list; here = read_here list e }

-- a value and what follows it
pub following : Following
unfolding lines meaning_by meanings token_length width_by run lead_of utf8_step utf8_from walk_lines take_token item_in position_of scan magnitude_of read_signed
following =
    record {
      published =
          record {
            parts = lines followed_text;
            count = 49 ∷ [];
            rest = (53 ∷ 47 ∷ 52 ∷ 69 ∷ []) ∷ [];
            lines = the_lines followed_text;
            keeps =
                Kept.kept {l = 100 ∷ []} (λ c. omega (arith, c))
                (Kept.kept {l = 49 ∷ []} (λ c. omega (arith, c))
                (Kept.kept {l = 53 ∷ 47 ∷ 52 ∷ 69 ∷ []} (λ c. omega (arith, c)) Kept.none));
            notes = number (pos 1) (lit< tt);
            values = (
              (
                53 ∷ 47 ∷ 52 ∷ [],
                record { before = []; rest = 69 ∷ []; whole = refl; blank = tt; ignored = λ h. omega (arith, h.1) },
                P.PitchText.ratio (53 ∷ []) (52 ∷ []) 5 4 refl (number_digits 5 (lit< tt)) (number_digits 4 (lit< tt)) (lit< tt) (lit< tt),
              ),
              tt,
            );
          };
      here = λ places. refl;
    }

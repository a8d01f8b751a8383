-- THE THEOREMS OF SCALE FILES (document 01, "What the contracts settle", demand 3): given room, a text is accepted exactly when it is
-- in the language, with its one reading; and it is refused exactly for its earliest fault. Assumes nothing.
use mathlib.Core.Path.{◌≡◌, refl, sym, ◌∙◌, ap}
use mathlib.Core.List.{List, [], ◌∷◌, ◌++◌}
use mathlib.Core.Logic.{◌↔◌}
use Prim.Native.Nat.{ℕ, zero, suc, ◌≤◌, ◌<◌}
use native.Mathlib.Omega.{arith}
use lib.ListN.{length}
use Rattle.base.specs.Said.{Said, gives, refuses, and_then}
use Rattle.base.proofs.Said.{same_value, no_value, no_refusal, same_refuses}
use Rattle.listing.proofs.Language.{Good, at_start, accepts_good}
use Rattle.listing.proofs.Language as walks
use Rattle.listing.proofs.Walks.{head_from, walk_on}
use Rattle.listing.specs.Listing.{Words, GiveAll}
use Rattle.listing.specs.Listing as listing
use Rattle.scl.specs.Table.{implicit}
use Rattle.scl.specs.declared.Item.{Item}
use Rattle.scl_tables.specs.Build.{sorted_of, scale_of}
use Rattle.sorting.specs.Entries.{Entry}
use Rattle.text.proofs.LineLanguage.{strict_text, one_strict_text}
use Rattle.text.proofs.Placed.{shown_all, placed_says}
use Rattle.text.specs.Placed.{placed_in}
use Rattle.text.specs.Part.{part}
use Rattle.text.specs.ReadLine.{said_in}
use Rattle.text.specs.Reading.{Meaning}
use Rattle.text.specs.declared.line.LineSays.{LineSays}
use Rattle.text.specs.declared.line.LineSays.TheVariants.{NotUtf8, Blank, Comment, Content}
use Rattle.scl_read.specs.Language.{required, ContentLine, scale, Values, description_of, ScaleText, WrongEnd, FaultText}
use Rattle.scl_read.specs.Reader.{check_of, given_from, given_in, first_content, description_in, scale_read, read_of, ReaderFinds}
use Rattle.scl_read.specs.declared.SclRead.{SclRead}
use Rattle.scl_read.proofs.Ends.{given_is, lines_sorted, end_gives, sorted_too, gives_end, end_wrong, wrong_end}
use Rattle.scl_read.proofs.Stands.{reads, blank_head, finish_on, same_walk}

-- ---- the description is the first line with content
first_line : (text : List ℕ) (xs : List LineSays) (first rest : List ContentLine) (vs : Values) → Words scale (shown_all text xs) (first ++ rest) → GiveAll scale tt required first vs →
    part text (first_content xs).start (first_content xs).end ≡ description_of vs
first_line text xs [] rest vs w g = absurd g
first_line text [] (l ∷ first) rest vs w g = absurd w
first_line text (NotUtf8 ∷ xs) (l ∷ first) rest vs w g = absurd w
first_line text (Blank ∷ xs) (l ∷ first) rest vs w g = first_line text xs (l ∷ first) rest vs w g
first_line text (Comment ∷ xs) (l ∷ first) rest vs w g = first_line text xs (l ∷ first) rest vs w g
first_line text (Content a e t ∷ xs) (l ∷ first) rest vs w g = sym (g.0 ∙ ap (λ x. x.whole) w.0)

-- the items that the lines of a text of the language give
pub given_in_law : {s d : List ℕ} {items : List Item} {list : List Entry} → ScaleText s d items list → given_in s ≡ items
given_in_law {s} t = ap (given_from 2) (one_strict_text s t.says t.text) ∙ given_is t.lines

-- ---- the first pass
module _ (places : ℕ) (s : List ℕ) where
  abbrev Accepts : ℕ → Type 0
  Accepts = Good scale reads finish_on places blank_head (said_in s)

  -- an accepted text is in the language, and there is room
  pub record InLanguage (n : ℕ) : Type 0 where
    pub description : List ℕ
    pub list : List Entry
    pub text : ScaleText s description (given_in s) list
    pub count : n ≡ length (given_in s)
    pub fits : n ≤ places

  good_text : (n : ℕ) → Accepts n → InLanguage n
  good_text n g =
      let a = end_gives (head_from scale reads required blank_head g.vs) g.es g.is in
      let same : given_in s ≡ g.es = given_is g.lines in
      let l = lines_sorted g.lines in
      record {
        description = description_of g.vs;
        list = l.0;
        text = rw same (record {
          says = said_in s;
          text = strict_text s;
          values = g.vs;
          lines = g.lines;
          not_large = a.not_large;
          consistent = a.consistent;
          described = refl;
          sorted = a.within ∙ l.1;
        });
        count = sym (ap length same ∙ a.is);
        fits = omega (arith, a.is, g.fits);
      }

  text_good : {d : List ℕ} {items : List Item} {list : List Entry} (t : ScaleText s d items list) → length items ≤ places → Accepts (length items)
  text_good {items = items} {list = list} t f = record {
    vs = t.values;
    es = items;
    lines = rw (one_strict_text s t.says t.text) t.lines;
    fits = f;
    is = gives_end (head_from scale reads required blank_head t.values) items t.not_large t.consistent list t.sorted;
  }

  pub checked : (n : ℕ) → check_of places s ≡ gives n → InLanguage n
  checked n e = good_text n ((accepts_good scale reads finish_on places blank_head refl (said_in s) n).0 (sym (same_walk places (said_in s)) ∙ e))

  pub checks : {d : List ℕ} {items : List Item} {list : List Entry} → ScaleText s d items list → length items ≤ places → check_of places s ≡ gives (length items)
  checks {items = items} t f = same_walk places (said_in s) ∙ (accepts_good scale reads finish_on places blank_head refl (said_in s) (length items)).1 (text_good t f)

  refusal_is : (ms : List Meaning) (n d : ℕ) → (walk_on scale reads finish_on places 1 (at_start scale reads blank_head) ms ≡ refuses n d) ↔ listing.Fault scale WrongEnd places ms n d
  refusal_is =
      walks.refuses_fault scale reads finish_on places blank_head refl WrongEnd
      (λ ms vs es b f n d e. end_wrong b (head_from scale reads required blank_head vs) refl n d e)
      (λ ms vs es b f n w. wrong_end b (head_from scale reads required blank_head vs) refl n w)

  pub check_refused : (n d : ℕ) → check_of places s ≡ refuses n d → listing.Fault scale WrongEnd places (said_in s) n d
  check_refused n d e = (refusal_is (said_in s) n d).0 (sym (same_walk places (said_in s)) ∙ e)

  pub check_refuses : (says : List Meaning) → said_in s ≡ says → (n d : ℕ) → listing.Fault scale WrongEnd places says n d → check_of places s ≡ refuses n d
  check_refuses says e n d f =
      same_walk places (said_in s) ∙ ap (walk_on scale reads finish_on places 1 (at_start scale reads blank_head)) e ∙ (refusal_is says n d).1 f

-- the description of a text of the language is the part that is answered
pub described : {s d : List ℕ} {items : List Item} {list : List Entry} → ScaleText s d items list → part s (description_in s).start (description_in s).end ≡ d
unfolding description_in
described {s} t =
    let ms : shown_all s (placed_in s) ≡ t.says = placed_says s ∙ one_strict_text s t.says t.text in
    first_line s (placed_in s) t.lines.first t.lines.rest t.values (rw ms t.lines.words) t.lines.values ∙ sym t.described

-- ---- the call
pub text_reading : {s d : List ℕ} {items : List Item} {list : List Entry} → ScaleText s d items list → ReaderFinds s d items list
text_reading {items = items} {list = list} t = record { described = described t; given = given_in_law t; sorted = sorted_too blank_head items list t.sorted }

-- a text of the language in the reading's terms
same_text : {s d c : List ℕ} {is js : List Item} {es fs : List Entry} → ScaleText s c is es → ReaderFinds s d js fs → ScaleText s d js fs
same_text {s} {d} {c} {is} {js} {es} {fs} t r =
    let q = text_reading t in
    let items : is ≡ js = sym q.given ∙ r.given in
    let words : c ≡ d = sym q.described ∙ r.described in
    let list : es ≡ fs = same_value es fs (sym q.sorted ∙ ap (λ l. sorted_of (implicit ∷ l)) items ∙ r.sorted) in
    rw (words, items, list) at t

module _ (room : ℕ) (s : List ℕ) where
  -- what is answered of an accepted text
  answered : (places : ℕ) (r : SclRead) (x : Said ℕ) → check_of places s ≡ x → and_then x (λ n. gives (scale_read n s)) ≡ gives r → InLanguage places s r.scl.count × (r ≡ scale_read (length (given_in s)) s)
  answered places r (refuses n k) e q = no_value q
  answered places r (gives n) e q =
      let z : scale_read n s ≡ r = same_value (scale_read n s) r q in
      let i = checked places s n e in
      (rw (ap (λ x. x.scl.count) z) at i, sym z ∙ ap (λ k. scale_read k s) i.count)

  -- ACCEPTED EXACTLY WHEN IN THE LANGUAGE, given room for place 0 and for each item, with this one reading
  pub accepts : (d : List ℕ) (items : List Item) (list : List Entry) →
      ((read_of room s ≡ gives (scale_read (length items) s)) × ReaderFinds s d items list) ↔ (ScaleText s d items list × (length items < room))
  accepts d items list = (forth room, back room)
    where
      forth : (k : ℕ) → (read_of k s ≡ gives (scale_read (length items) s)) × ReaderFinds s d items list → ScaleText s d items list × (length items < k)
      forth zero u = no_value u.0
      forth (suc places) u = let i = (answered places (scale_read (length items) s) (check_of places s) refl u.0).0 in (same_text i.text u.1, omega (arith, i.fits))

      back : (k : ℕ) → ScaleText s d items list × (length items < k) → (read_of k s ≡ gives (scale_read (length items) s)) × ReaderFinds s d items list
      back zero u = absurd (omega (arith, u.1))
      back (suc places) u = (rw (checks places s u.0 (omega (arith, u.1))), text_reading u.0)

  -- an accepted text is in the language
  pub accepted : (r : SclRead) → read_of room s ≡ gives r →
      (d : List ℕ) × (list : List Entry) × ScaleText s d (given_in s) list × (length (given_in s) < room) × (r ≡ scale_read (length (given_in s)) s)
  accepted r e = go room e
    where
      go : (k : ℕ) → read_of k s ≡ gives r → (d : List ℕ) × (list : List Entry) × ScaleText s d (given_in s) list × (length (given_in s) < k) × (r ≡ scale_read (length (given_in s)) s)
      go zero q = no_value q
      go (suc places) q = let a = answered places r (check_of places s) refl q in (a.0.description, a.0.list, a.0.text, omega (arith, a.0.count, a.0.fits), a.1)

  -- REFUSED EXACTLY FOR THE EARLIEST FAULT: number and detail are the fault's
  pub refuses_fault : (n d : ℕ) → (read_of room s ≡ refuses n d) ↔ FaultText s n d room
  refuses_fault n d = (forth room, back room)
    where
      by_check : (places : ℕ) (x : Said ℕ) → check_of places s ≡ x → and_then {B = SclRead} x (λ k. gives (scale_read k s)) ≡ refuses n d → FaultText s n d (suc places)
      by_check places (gives k) e q = no_refusal q
      by_check places (refuses n' d') e q =
          let r = same_refuses q in
          FaultText.at_lines places (said_in s) (strict_text s) (check_refused places s n d (e ∙ (λ i. refuses (r.0 i) (r.1 i))))

      forth : (k : ℕ) → read_of k s ≡ refuses n d → FaultText s n d k
      forth zero e = let r = same_refuses e in FaultText.no_place (sym r.0) (sym r.1)
      forth (suc places) e = by_check places (check_of places s) refl e

      back : (k : ℕ) → FaultText s n d k → read_of k s ≡ refuses n d
      back zero (FaultText.no_place p q) = rw (p, q)
      back (suc places) (FaultText.at_lines _ says t f) = rw (check_refuses places s says (one_strict_text s says t) n d f)

-- ONE READING: a text is a scale file of one description, one list of items, and the one sorted list that these have
pub one_reading : (s d c : List ℕ) (is js : List Item) (es fs : List Entry) → ScaleText s d is es → ScaleText s c js fs → (d ≡ c) × (is ≡ js) × (es ≡ fs)
one_reading s d c is js es fs t u =
    let items : is ≡ js = sym (given_in_law t) ∙ given_in_law u in
    (sym (described t) ∙ described u, items, same_value es fs (sym t.sorted ∙ ap (λ l. scale_of (implicit ∷ l)) items ∙ u.sorted))

-- ONE EARLIEST FAULT: number and detail are one
pub one_fault : (room : ℕ) (s : List ℕ) (m n c d : ℕ) → FaultText s m c room → FaultText s n d room → (m ≡ n) × (c ≡ d)
one_fault room s m n c d t u = same_refuses (sym ((refuses_fault room s m c).1 t) ∙ (refuses_fault room s n d).1 u)

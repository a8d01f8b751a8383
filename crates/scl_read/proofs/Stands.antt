-- The reader's walk is the walk of the format: its state stands to a place by what is due, the number of notes, how many items were given
-- and the last of them. Assumes nothing.
use Rattle.std.specs.Prelude.{Err, Ok, Result}
use mathlib.Core.Path.{◌≡◌, refl, sym, ◌∙◌, ap}
use mathlib.Core.Bool.{Bool, true, false}
use mathlib.Core.List.{List, [], ◌∷◌, ◌++◌}
use Prim.Native.Nat.{ℕ, ◌+◌, ◌-◌, ◌^◌}
use native.Mathlib.Omega.{arith}
use lib.Dec.{leb, ltb, eqb, lit<}
use lib.IntN.{pos, nat_abs}
use lib.ListN.{length, get_or, length-append}
use Rattle.base.specs.Numbers.{int_value, line_missing, no_room, too_large, inconsistent_count, beyond_reach}
use Rattle.base.specs.Said.{Said, gives, refuses, pick, and_then}
use Rattle.base.proofs.Said.{same_value, no_value, no_refusal, same_refuses}
use Rattle.integers.proofs.AtLine.{int_gives, gives_int, refuses_int, int_wrong, unsigned}
use Rattle.integers.specs.AtLine.{int_at}
use Rattle.integers.specs.Integer.{Int, value, none, read_int}
use Rattle.listing.proofs.Given.{Alike}
use Rattle.listing.proofs.Given as walks
use Rattle.listing.proofs.Language.{at_start}
use Rattle.listing.proofs.Walks.{Reads, Place, placed, word_on, step_on, end_on, walk_on}
use Rattle.scl.specs.Table.{no_item, implicit}
use Rattle.scl.specs.declared.Item.{Item}
use Rattle.scl_read.proofs.ItemLanguage.{is_item, item_is, is_no_item, no_item_is}
use Rattle.base.specs.Numbers.{number_of}
use Rattle.base.specs.declared.Reason.{Reason}
use Rattle.scl_read.specs.Tokens.{item_in, item_said}
use Rattle.scl_tables.specs.Build.{last_of, is_beyond}
use Rattle.text.specs.Reading.{Meaning, invalid, blank, comment, content}
use Rattle.scl_read.specs.Language.{Required, required, ContentLine, Value, Gives, Wrong, scale}
use Rattle.scl_read.specs.Reader.{item_placed, take_due, take_token, take_meaning, which_of, finished, unread, walk}
use Rattle.scl_read.specs.declared.line.Due.{Due}
use Rattle.scl_read.specs.declared.line.Due.TheVariants as due
use Rattle.scl_read.specs.declared.line.State.{State}

-- ---- what the required lines say
pub record Head : Type 0 where
  pub description : List ℕ
  pub declared : ℕ

abbrev pub blank_head : Head
blank_head = record { description = []; declared = 0 }

abbrev pub with_field : (f : Required) → Head → Value f → Head
with_field Required.description h d = record { description = d; declared = h.declared }
with_field Required.count h n = record { description = h.description; declared = n }

-- what a line is read as, as a required one
abbrev pub read_as : (f : Required) → ℕ → ContentLine → Said (Value f)
read_as Required.description k l = gives l.whole
read_as Required.count k l = and_then (int_at int_value k (read_int false (2 ^ 16) l.token)) (λ z. gives (nat_abs z))

pub read_gives : (f : Required) (k : ℕ) (l : ContentLine) (v : Value f) → read_as f k l ≡ gives v → Gives f l v
read_gives Required.description k l v e = sym (same_value l.whole v e)
read_gives Required.count k l v e =
    let r = int_gives int_value false (2 ^ 16) (lit< tt) k l.token (λ z. gives (nat_abs z)) e in
    let n : nat_abs r.0 ≡ v = same_value (nat_abs r.0) v r.2 in
    rw (sym (ap pos n) ∙ unsigned (2 ^ 16) l.token r.0 r.1) r.1

pub gives_read : (f : Required) (k : ℕ) (l : ContentLine) (v : Value f) → Gives f l v → read_as f k l ≡ gives v
gives_read Required.description k l v g = ap gives (sym g)
gives_read Required.count k l v g = gives_int int_value false (2 ^ 16) (lit< tt) k l.token (λ z. gives (nat_abs z)) g

pub read_wrong : (f : Required) (k : ℕ) (l : ContentLine) (n d : ℕ) → read_as f k l ≡ refuses n d → (d ≡ k) × Wrong f l n
read_wrong Required.description k l n d e = no_refusal e
read_wrong Required.count k l n d e = int_wrong int_value false (2 ^ 16) (lit< tt) k l.token nat_abs e

pub wrong_read : (f : Required) (k : ℕ) (l : ContentLine) (n : ℕ) → Wrong f l n → read_as f k l ≡ refuses n k
wrong_read Required.description k l n w = absurd w
wrong_read Required.count k l n w = refuses_int int_value false (2 ^ 16) (lit< tt) k l.token (λ z. gives (nat_abs z)) w

-- an item at line k
pub at_is : (k : ℕ) (r : (Result Item Reason)) (i : Item) → item_said k r ≡ gives i → r ≡ Ok i
at_is k (Ok x) i e = ap Ok (same_value x i e)
at_is k (Err n) i e = no_value e

pub at_not : (k : ℕ) (r : (Result Item Reason)) (n d : ℕ) → item_said k r ≡ refuses n d → (d ≡ k) × (s : Reason) × (r ≡ Err s) × (number_of s ≡ n)
at_not k (Ok x) n d e = no_refusal e
at_not k (Err m) n d e = let q = same_refuses e in (sym q.1, m, refl, q.0)

-- HOW A SCALE IS READ
abbrev pub reads : Reads scale
reads = record {
  Head = Head;
  put = with_field;
  seen = λ h. tt;
  seen_put = λ f h v. refl;
  read_as = λ f h. read_as f;
  entry_as = λ k l. item_said k (item_in l.token);
  read_gives = λ f h. read_gives f;
  gives_read = λ f h. gives_read f;
  read_wrong = λ f h. read_wrong f;
  wrong_read = λ f h. wrong_read f;
  entry_is = λ k l i q. is_item l.token i (at_is k (item_in l.token) i q);
  is_entry = λ k l i x. ap (item_said k) (item_is l.token i x);
  entry_bad = λ k l n d q. let r = at_not k (item_in l.token) n d q in (r.0, rw (← r.3) (is_no_item l.token r.1 r.2));
  bad_entry = λ k l n w. no_item_is l.token n k w;
}

-- the last item so far, the implicit one before the first
abbrev pub last_in : List Item → Item
last_in es = last_of (implicit ∷ es)

at_end : (xs : List Item) (y : Item) → get_or (xs ++ y ∷ []) (length xs) no_item ≡ y
at_end [] y = refl
at_end (x ∷ xs) y = at_end xs y

pub last_more : (es : List Item) (i : Item) → last_in (es ++ i ∷ []) ≡ i
last_more es i =
    let n : length (implicit ∷ (es ++ i ∷ [])) - 1 ≡ length (implicit ∷ es) = omega (arith, length-append es (i ∷ [])) in
    ap (λ k. get_or (implicit ∷ (es ++ i ∷ [])) k no_item) n ∙ at_end (implicit ∷ es) i

-- the required lines from the one that is due on
abbrev fields_from : Due → List Required
fields_from due.Description = required
fields_from due.Count = Required.count ∷ []
fields_from due.Items = []

-- a state stands to a place
record Stands (s : State) (p : Place scale reads) : Type 0 where
  fields : p.fields ≡ fields_from s.due
  declared : s.declared ≡ p.head.declared
  count : s.count ≡ length p.es
  last : s.last ≡ last_in p.es

-- THE LINE THAT IS DUE
module _ (places k : ℕ) (m t : List ℕ) (s : State) (p : Place scale reads) (x : Stands s p) where
  count_alike : (i : Int) →
      Alike Stands (and_then (int_at int_value k i) (λ z. gives (record { due = due.Items; declared = nat_abs z; count = s.count; last = s.last })))
      (and_then (and_then (int_at int_value k i) (λ z. gives (nat_abs z))) (λ v. gives (record { fields = []; head = with_field Required.count p.head v; es = p.es })))
  count_alike (value z) = Alike.values _ _ (record { fields = refl; declared = refl; count = x.count; last = x.last })
  count_alike none = Alike.refusals _ _

  item_alike : (r : (Result Item Reason)) → Alike Stands (item_placed places k s r) (and_then (item_said k r) (placed scale reads places k p.head p.es))
  item_alike (Ok i) = rw (sym x.count) (go (leb places s.count))
    where
      go : (b : Bool) →
          Alike Stands (pick b (refuses no_room k) (gives (record { due = due.Items; declared = s.declared; count = s.count + 1; last = i })))
          (pick b (refuses no_room k) (gives (record { fields = []; head = p.head; es = p.es ++ i ∷ [] })))
      go true = Alike.refusals no_room k
      go false = Alike.values (record { due = due.Items; declared = s.declared; count = s.count + 1; last = i }) (record { fields = []; head = p.head; es = p.es ++ i ∷ [] })
          (record { fields = refl; declared = x.declared; count = omega (arith, x.count, length-append p.es (i ∷ [])); last = sym (last_more p.es i) })
  item_alike (Err r) = Alike.refusals (number_of r) k

  due_alike : (d : Due) → Alike Stands (take_due places k t s d) (word_on scale reads places k (record { whole = m; token = t }) p.head p.es (fields_from d))
  due_alike due.Description = Alike.values (record { due = due.Count; declared = s.declared; count = s.count; last = s.last }) (record { fields = Required.count ∷ []; head = with_field Required.description p.head m; es = p.es })
      (record { fields = refl; declared = x.declared; count = x.count; last = x.last })
  due_alike due.Count = count_alike (read_int false (2 ^ 16) t)
  due_alike due.Items = item_alike (item_in t)

steps : (places k : ℕ) (m : Meaning) (s : State) (p : Place scale reads) → Stands s p → Alike Stands (take_meaning places k m s) (step_on scale reads places k m p)
unfolding take_token
steps places k invalid s p x = Alike.refusals _ _
steps places k blank s p x = Alike.values s p x
steps places k comment s p x = Alike.values s p x
steps places k (content m t) s p x = rw x.fields (due_alike places k m t s p x s.due)

-- THE END
abbrev pub finish_on : Head → List Item → Said ℕ
finish_on h es =
    pick (ltb 65535 (length es)) (refuses too_large 0)
    (pick (eqb (length es) h.declared)
    (pick (is_beyond (length es) (last_in es)) (refuses beyond_reach 0) (gives (length es)))
    (refuses inconsistent_count 0))

ends : (s : State) (p : Place scale reads) → Stands s p → finished s ≡ end_on scale reads finish_on p.head p.es p.fields
unfolding finished
ends s p x = rw x.fields (go s.due)
  where
    go : (d : Due) →
        pick (ltb 0 (which_of d)) (refuses line_missing (which_of d))
        (pick (ltb 65535 s.count) (refuses too_large 0)
        (pick (eqb s.count s.declared)
        (pick (is_beyond s.count s.last) (refuses beyond_reach 0) (gives s.count))
        (refuses inconsistent_count 0))) ≡ end_on scale reads finish_on p.head p.es (fields_from d)
    go due.Description = refl
    go due.Count = refl
    go due.Items = rw (x.count, x.declared, x.last)

-- THE SAME WALK
pub same_walk : (places : ℕ) (ms : List Meaning) → walk places 1 unread ms ≡ walk_on scale reads finish_on places 1 (at_start scale reads blank_head) ms
same_walk places ms =
    walks.same_walk scale reads (take_meaning places) finished finish_on places Stands (steps places) ends 1 unread (at_start scale reads blank_head) ms
    (record { fields = refl; declared = refl; count = refl; last = refl })

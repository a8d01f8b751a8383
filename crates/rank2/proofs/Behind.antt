-- List columns changed in their first places alone: room, builder and what a build leaves are the same. Assumes nothing.
use mathlib.Core.Path.{◌≡◌, sym, ◌∙◌, ap}
use mathlib.Core.List.{List, ◌++◌}
use Prim.Native.Nat.{ℕ, ◌+◌, ◌-◌, ◌≤◌}
use native.Mathlib.Omega.{arith}
use lib.IntN.{ℤ}
use lib.Ieee.{Float}
use lib.ListN.{length, take, drop}
use lib.Seq.{drop-drop, drop_at, take_at, length_front}
use Rattle.base.specs.Said.{Said, gives}
use Rattle.base.specs.Tables.{over}
use Rattle.sorting.specs.Entries.{Entry}
use Rattle.sorted.specs.Lent.{ListTable, list_table, places_of, ratios_of, wraps_of}
use Rattle.scl.specs.Table.{ItemTable}
use Rattle.scl_tables.specs.Build.{after_list}
use Rattle.scl_tables.specs.Room.{room_of}
use Rattle.scl_build.specs.Builder.{after_new, built}
use Rattle.scl_build.specs.declared.SclBuilder.{SclBuilder}
use Rattle.rank2.specs.Steps.{Behind}

drop_more : {A : Type 0} (n m : ℕ) (a b : List A) → n ≤ m → drop n a ≡ drop n b → drop m a ≡ drop m b
drop_more {A} n m a b h e =
    let z : n + (m - n) ≡ m = omega arith in
    ap (λ (k : ℕ). drop k a) (sym z) ∙ sym (drop-drop (m - n) n a) ∙ ap (drop (m - n)) e ∙ drop-drop (m - n) n b ∙ ap (λ (k : ℕ). drop k b) z

over_same : {A : Type 0} (n : ℕ) (a b new : List A) → n ≤ length new → drop n a ≡ drop n b → over a new ≡ over b new
over_same {A} n a b new h e = ap (λ (l : List A). new ++ l) (drop_more n (length new) a b h e)

length_column : {A : Type 0} (f : Entry → A) (es : List Entry) → length (mathlib.Core.List.map f es) ≡ length es
length_column f es = lib.ListN.length-map es f

module _ {n : ℕ} {l l' : ListTable} (b : Behind n l l') where
  pub same_room : (t : ItemTable) → room_of t l' ≡ room_of t l
  unfolding room_of
  same_room t = rw (b.places_room, b.ratios_room, b.wraps_room)

  pub same_new : (t : ItemTable) → after_new t l' ≡ after_new t l
  same_new t = rw (same_room t)

  pub same_built : (s : SclBuilder) (t : ItemTable) → built s t l' ≡ built s t l
  unfolding built
  same_built s t = rw (b.places_room, b.ratios_room, b.wraps_room)

  -- what was changed is written anew
  pub same_list : (es : List Entry) → n ≤ length es → after_list (gives es) l' ≡ after_list (gives es) l
  same_list es h =
      let p = over_same n l'.places l.places (places_of es) (omega (arith, h, length_column (λ (e : Entry). e.place) es)) b.places in
      let r = over_same n l'.ratios l.ratios (ratios_of es) (omega (arith, h, length_column (λ (e : Entry). e.ratio) es)) b.ratios in
      let w = over_same n l'.wraps l.wraps (wraps_of es) (omega (arith, h, length_column (λ (e : Entry). e.wraps) es)) b.wraps in
      λ i. record { places = p i; ratios = r i; wraps = w i }

-- ---- parts lent and given back
pub behind_parts : (n : ℕ) (l : ListTable) (ps : List ℕ) (rs : List Float) (ws : List ℤ) → length ps ≡ length (take n l.places) → length rs ≡ length (take n l.ratios) → length ws ≡ length (take n l.wraps)
    → length ps ≡ n → length rs ≡ n → length ws ≡ n → Behind n l (list_table (ps ++ drop n l.places) (rs ++ drop n l.ratios) (ws ++ drop n l.wraps))
behind_parts n l ps rs ws hp hr hw lp lr lw = record {
  places_room = length_front l.places ps n hp;
  ratios_room = length_front l.ratios rs n hr;
  wraps_room = length_front l.wraps ws n hw;
  places = drop_at ps (drop n l.places) n lp;
  ratios = drop_at rs (drop n l.ratios) n lr;
  wraps = drop_at ws (drop n l.wraps) n lw;
}

pub taken_part : (n : ℕ) (rs rest : List Float) {s : Said (List Float)} → length rs ≡ n → gives rs ≡ s → gives (take n (rs ++ rest)) ≡ s
taken_part n rs rest h e = ap gives (take_at rs rest n h) ∙ e

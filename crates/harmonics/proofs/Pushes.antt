-- The pushes of a segment's items, one by one, come to those of the whole list. Assumes nothing.
use Rattle.std.proofs.Common.{◌≡◌, ℕ, zero, suc, ◌+◌, ◌-◌, ◌<◌, ◌≤◌, List, [], ◌∷◌, sym, refl, ap, ◌∙◌, subst, arith}
use Rattle.base.specs.Said.{Said, gives, refuses, and_then}
use Rattle.base.proofs.Said.{no_value, same_value}
use Rattle.scl.specs.Table.{ItemTable}
use Rattle.scl.specs.declared.Item.{Item}
use Rattle.scl_build.specs.Builder.{Built, beside, builder_after, pushed, after_push, after_one, after_all}
use Rattle.scl_build.specs.declared.SclBuilder.{SclBuilder}
use Rattle.generate.specs.Generated.{items_from}
use Rattle.generate.proofs.Kept.{Kept, kept_all, kept_push}
use Rattle.harmonics.specs.Steps.{after_said, with_said, said_from}

-- ---- one push
module _ (b : SclBuilder) (t : ItemTable) (i : Item) {t' : ItemTable} (w : t' ≡ after_push b t i) where
  pub push_given : {b' : SclBuilder} → gives b' ≡ pushed b t i → beside b' t' ≡ after_one (beside b t) i
  push_given e = let p = ap (builder_after b) e in λ j. beside (p j) (w j)

  pub push_kept : {n d : ℕ} → refuses n d ≡ pushed b t i → beside b t' ≡ after_one (beside b t) i
  push_kept e = let p = ap (builder_after b) e in λ j. beside (p j) (w j)

-- no column changes its length
pub said_kept : (s : Built) (x : Said Item) {s' : Built} → s' ≡ after_said s x → Kept s'.table s.table
said_kept s (gives i) e = subst (λ (z : Built). Kept z.table s.table) (sym e) (kept_push s.builder s.table i)
said_kept s (refuses n d) e = subst (λ (z : Built). Kept z.table s.table) (sym e) (kept_all s.table)

-- ---- the run of them
said_turn : (s : Built) (x : Said Item) (is : List Item) → after_all s (with_said x is) ≡ after_all (after_said s x) is
unfolding after_all
said_turn s (gives i) is = refl
said_turn s (refuses n d) is = refl

module _ (f : ℕ → Said Item) (n : ℕ) where
  -- what is left to push after i of n
  abbrev pub left_after : ℕ → List Item
  left_after i = said_from f (i + 1) (n - i)

  pub none_pushed : (s : Built) → after_all s (left_after 0) ≡ after_all s (said_from f 1 n)
  none_pushed s = let z : n - 0 ≡ n = omega arith in ap (λ (k : ℕ). after_all s (said_from f 1 k)) z

  pub one_pushed : (i : ℕ) (s : Built) {s' : Built} → i < n → s' ≡ after_said s (f (i + 1)) → after_all s' (left_after (i + 1)) ≡ after_all s (left_after i)
  unfolding said_from
  one_pushed i s h e =
      let z : n - i ≡ suc (n - (i + 1)) = omega arith in
      let y : suc (i + 1) ≡ i + 1 + 1 = omega arith in
      rw (e, z, y) (sym (said_turn s (f (i + 1)) (said_from f (i + 1 + 1) (n - (i + 1)))))

  pub all_pushed : (i : ℕ) {s : Built} → i ≤ n → n ≤ i → after_all s (left_after i) ≡ s
  unfolding said_from after_all
  all_pushed i h g = let z : n - i ≡ 0 = omega arith in rw z

-- ---- where all are said, these are they
pub said_all : (f : ℕ → Said Item) (n k : ℕ) {is : List Item} → items_from f k n ≡ gives is → said_from f k n ≡ is
unfolding items_from said_from
said_all f zero k {is} e = same_value [] is e
said_all f (suc n) k {is} e = go (f k) (items_from f (suc k) n) (λ is q. said_all f n (suc k) q) e
  where
    go : (x : Said Item) (y : Said (List Item)) → ((is : List Item) → y ≡ gives is → said_from f (suc k) n ≡ is) → and_then x (λ i. and_then y (λ is. gives (i ∷ is))) ≡ gives is → with_said x (said_from f (suc k) n) ≡ is
    go (gives i) (gives is') g q = ap (λ (l : List Item). i ∷ l) (g is' refl) ∙ same_value (i ∷ is') is q
    go (gives i) (refuses a d) g q = no_value q
    go (refuses a d) y g q = no_value q

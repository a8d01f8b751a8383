-- A push changes no column's length. Assumes nothing.
use mathlib.Core.Path.{◌≡◌, refl, ◌∙◌}
use Prim.Native.Nat.{ℕ, ◌+◌}
use lib.ListN.{length, length-set}
use Rattle.base.specs.Said.{Said, gives, refuses}
use Rattle.scl.specs.Table.{ItemTable, written_at}
use Rattle.scl.specs.declared.Item.{Item}
use Rattle.scl_build.specs.Builder.{written_where, after_push, pushed}
use Rattle.scl_build.specs.declared.SclBuilder.{SclBuilder}

-- the columns of t are as long as those of u
pub record Kept (t u : ItemTable) : Type 0 where
  pub kinds : length t.kinds ≡ length u.kinds
  pub cents : length t.cents ≡ length u.cents
  pub numers : length t.numers ≡ length u.numers
  pub denoms : length t.denoms ≡ length u.denoms

pub kept_all : (t : ItemTable) → Kept t t
kept_all t = record { kinds = refl; cents = refl; numers = refl; denoms = refl }

pub kept_on : {t u v : ItemTable} → Kept t u → Kept u v → Kept t v
kept_on a b = record { kinds = a.kinds ∙ b.kinds; cents = a.cents ∙ b.cents; numers = a.numers ∙ b.numers; denoms = a.denoms ∙ b.denoms }

pub kept_written : (t : ItemTable) (k : ℕ) (i : Item) → Kept (written_at t k i) t
kept_written t k i = record { kinds = length-set t.kinds k _; cents = length-set t.cents k _; numers = length-set t.numers k _; denoms = length-set t.denoms k _ }

pub kept_push : (b : SclBuilder) (t : ItemTable) (i : Item) → Kept (after_push b t i) t
kept_push b t i = go (pushed b t i)
  where
    go : (s : Said SclBuilder) → Kept (written_where s t (b.count + 1) i) t
    go (gives x) = kept_written t (b.count + 1) i
    go (refuses n d) = kept_all t

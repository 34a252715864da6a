-- When a unit is at least as loaded as another, and what every kind shows of it.
use Rattle.std.specs.Prelude.{◌≡◌, ℕ, ◌<◌, ◌≤◌, true, false, cond, ◌&&◌, T, ℤ, ◌≤ℤ◌, Ok, ◌==◌}
use Rattle.unit.specs.Answers.{write_answer}
use Rattle.unit.specs.Kind.{Kind, State, made}
use Rattle.unit.specs.Levels.{stands_in, base_of}
use Rattle.unit.specs.Steps.{report_in, write_in, reset_in}
use Rattle.unit.specs.declared.mark.Mark.{Mark}

-- w is no milder a report of source n than v: not lower at a temperature, and failing wherever v fails at any other
abbrev pub NoMilder : (k : Kind) → k.Page → ℕ → ℤ → ℤ → Type 0
NoMilder k s n v w = cond (k.warms n) (v ≤ℤ w) (T (k.fails s n v) → T (k.fails s n w))

-- every mark of a is there in b
abbrev pub Heavier : (ℕ → Mark) → (ℕ → Mark) → Type 0
Heavier a b = (n : ℕ) → (T (a n).failing → T (b n).failing) × (T (a n).held → T (b n).held)

-- The kind's own part; what marks do is the same in every kind.
pub record Order (k : Kind) : Type 0 where
  pub fresh : k.Hotter k.fresh k.fresh
  pub fails : (s : k.Page) (n : ℕ) (v w : ℤ) → T (k.warms n) → v ≤ℤ w → T (k.fails s n v) → T (k.fails s n w)
  pub reported : (s : k.Page) (a b : k.Own) → k.Hotter a b → (n : ℕ) (v w : ℤ) → n < k.sources → NoMilder k s n v w → k.Hotter (k.reported s a n v) (k.reported s b n w)
  pub base : (p : ℕ) (s : k.Page) (a b : k.Own) → k.Hotter a b → (f : ℕ) → k.base p s a f ≤ k.base p s b f

-- equal make and settings
pub record Alike {k : Kind} (a b : State k) : Type 0 where
  pub strap : a.strap ≡ b.strap
  pub page : a.page ≡ b.page

-- b is at least as loaded as a
pub record Loaded (k : Kind) (a b : State k) : Type 0 where
  pub alike : Alike a b
  pub marks : Heavier a.marks b.marks
  pub own : k.Hotter a.own b.own

-- What a rack rests on: equal fresh units are loaded alike, the order survives the same write, the same reset and a report that is no
-- milder, and it gives every standing cause and no lower base.
pub record Steady (k : Kind) : Type 0 where
  pub fresh : (p : ℕ) → Loaded k (made k p) (made k p)
  pub reset : (a b : State k) → Loaded k a b → Loaded k (reset_in k a) (reset_in k b)
  pub write : (a b : State k) → Loaded k a b → (r c : ℕ) → Loaded k (write_in k a r c) (write_in k b r c)
  pub report : (a b : State k) → Loaded k a b → (n : ℕ) (v w : ℤ) → n < k.sources → NoMilder k a.page n v w → Loaded k (report_in k a n v) (report_in k b n w)
  pub stand : (a b : State k) → Loaded k a b → (n : ℕ) → T (stands_in k a n) → T (stands_in k b n)
  pub base : (a b : State k) → Loaded k a b → (f : ℕ) → base_of k a f ≤ base_of k b f

-- b can be a setting at r: its write is served, and changes no bit of it
pub record Again (k : Kind) (r b : ℕ) : Type 0 where
  pub byte : b < 256
  pub served : write_answer k r b ≡ Ok tt
  pub same : k.named r b ≡ b

-- what else the meaning asks of every kind
pub record Faithful (k : Kind) : Type 0 where
  pub fans : k.fans ≤ 8
  pub sources : k.sources ≤ 32
  -- a report of a source that is no temperature changes no base
  pub cold : (p : ℕ) (s : k.Page) (a : k.Own) (n : ℕ) (v : ℤ) (f : ℕ) → k.warms n ≡ false → k.base p s (k.reported s a n v) f ≡ k.base p s a f
  -- a register with a setting is there, and is not read only
  pub present : (r : ℕ) → T (k.setting r) → k.present r ≡ true
  pub settable : (r : ℕ) → T (k.setting r) → k.constant r ≡ false
  -- a served write changes that setting only, to the byte's named bits
  pub stored : (s : k.Page) (r b q : ℕ) → write_answer k r b ≡ Ok tt → k.byte (k.store s r b) q ≡ cond (q == r && k.setting r) (k.named r b) (k.byte s q)
  -- what is a setting at power-on, or by a served write, can be written again
  pub fresh : (p r : ℕ) → T (k.setting r) → Again k r (k.byte (k.power_on p) r)
  pub written : (r b : ℕ) → b < 256 → T (k.setting r) → write_answer k r b ≡ Ok tt → Again k r (k.named r b)

-- What a kind of unit is, and what a unit of it means at any moment.
use Rattle.std.specs.Prelude.{ℕ, Bool, false, ℤ}
use Rattle.unit.specs.declared.mark.Mark.{Mark}

-- A kind: what the make (the kind and the strap, which no call changes) and the settings decide, and the unit's own state.
-- Fans and sources are counted from 0 here. The settings are a type of the kind's own, read by `byte`, so that a unit made of another
-- can keep its own bytes beside those of the unit below.
pub record Kind : Type 1 where
  pub fans : ℕ
  pub sources : ℕ
  pub present : ℕ → Bool  -- the registers that are there
  pub constant : ℕ → Bool  -- those that are read only
  pub setting : ℕ → Bool  -- those that have a setting
  pub bad_code : ℕ → ℕ → Bool  -- register, byte: a range code above 4
  pub named : ℕ → ℕ → ℕ  -- register, byte: the byte's named bits
  pub Page : Type 0  -- the settings
  pub power_on : ℕ → Page  -- by strap
  pub byte : Page → ℕ → ℕ  -- the setting at a register
  pub store : Page → ℕ → ℕ → Page  -- a write of a byte to a register
  pub clears : ℕ → ℕ → ℕ → Bool  -- register, byte, source: this write ends the source's hold
  pub warms : ℕ → Bool  -- the sources that are temperatures
  pub low : ℕ → ℤ  -- the least and the greatest value of a source
  pub high : ℕ → ℤ
  pub fails : Page → ℕ → ℤ → Bool  -- source, value: a report of it fails
  pub latches : Page → ℕ → Bool  -- a failing report of the source is held
  pub pulls : Page → ℕ → Bool  -- a standing cause pulls the line
  pub asserts : Page → ℕ → Bool  -- a standing cause asserts INT
  pub demand : Page → ℕ → ℕ → ℕ  -- source, fan: the level that a standing cause asks for, 0 for none
  pub answer : Page → ℕ → ℕ  -- fan: the level with which it answers a low line
  pub forced : Page → Bool  -- the unit pulls the line whatever its causes
  pub interrupt : Page → Bool → Bool  -- INT, with and without a standing cause that asserts it
  pub pin : Page → Bool → Bool  -- the level of its pin, likewise
  pub Own : Type 0  -- the own state: readings, loops and the like
  pub fresh : Own
  pub reported : Page → Own → ℕ → ℤ → Own  -- source, value
  pub base : ℕ → Page → Own → ℕ → ℕ  -- strap, settings, own state, fan: its level before any cause or line
  pub shows : Page → (ℕ → Mark) → Own → ℕ → ℕ  -- the byte that a read of a register gives
  pub Hotter : Own → Own → Type 0  -- the kind's own part of "at least as loaded"

-- a unit at a moment
pub record State (k : Kind) : Type 0 where
  pub strap : ℕ
  pub page : k.Page
  pub marks : ℕ → Mark
  pub own : k.Own

-- neither failing nor held
abbrev pub clear : Mark
clear = record { failing = false; held = false }

-- a unit at power-on
abbrev pub made : (k : Kind) → ℕ → State k
made k p = record { strap = p; page = k.power_on p; marks = λ n. clear; own = k.fresh }

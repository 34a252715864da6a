-- The bytes that are put at power-on are those of the table, and can be written there.
use Rattle.std.proofs.Common.{◌≡◌, ℕ, Bool, true, false, cond, ◌||◌, T, eqb, refl}
use Rattle.registers.specs.Settings.{filled}
use Rattle.registers.specs.Tables.{all_fit, look, role_of}
use Rattle.registers.proofs.Laws.{same_roles}
use Rattle.registers.proofs.PowerOn.{start_filled, starts_as}
use Rattle.double_settings.specs.Registers.{first_bytes, first_bytes_for, first_start, is_automatic, power_on_byte, role_at, rows, rows_for}

-- the table's bytes at power-on are those that are put, and each fits its row
abbrev starts : Bool → ℕ → Bool
starts a start = starts_as 3 0x88 (rows_for a start) (first_bytes_for a start)

-- so it is with automatic control or without, for each of the starts that a strap gives
ready : (a high middle : Bool) → let start : ℕ = cond high 48 (cond middle 40 32) in T (starts a start) × T (all_fit (rows_for a start))
ready true true middle = (tt, tt)
ready true false true = (tt, tt)
ready true false false = (tt, tt)
ready false true middle = (tt, tt)
ready false false true = (tt, tt)
ready false false false = (tt, tt)

ready_by : (p : ℕ) → T (starts (is_automatic p) (first_start p)) × T (all_fit (rows p))
ready_by p = ready (is_automatic p) (eqb p 1 || eqb p 6) (eqb p 2 || eqb p 5)

pub first_settings : (p : ℕ) → filled 3 0x88 (λ _. 0) (first_bytes p) ≡ power_on_byte p
first_settings p = start_filled 3 0x88 (rows p) (first_bytes p) (ready_by p).0

pub all_fit_lem : (p : ℕ) → T (all_fit (rows p))
all_fit_lem p = (ready_by p).1

-- the strap decides no role
pub any_strap : (p r : ℕ) → role_of (look (rows p) r) ≡ role_at r
any_strap p r = same_roles (rows p) (rows 0) refl r

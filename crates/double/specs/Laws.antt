-- What the double unit shows of its kind.
use Rattle.std.specs.Prelude.{◌≡◌, ℕ, ◌≤◌, Bool, true, false, cond, ◌&&◌, T, ℤ, ◌≤ℤ◌, Some, None, Option, int_lt, unsigned_abs, refl}
use Rattle.std.proofs.Common.{sym, subst, arith}
use Rattle.control.specs.Range.{degrees}
use Rattle.control.proofs.Warmth.{warmer_heard, warmer_level}
use Rattle.double_settings.specs.Parts.{channel_index, fan_at, fan_index, source_at}
use Rattle.double_settings.specs.Registers.{is_automatic, power_on_byte, role_at, rows}
use Rattle.double_settings.specs.Settings.{alarm_level, code_at, drives, hysteresis_at, limit_of, minimum, monitoring, start_at}
use Rattle.double_settings.specs.declared.parts.Channel.{Channel}
use Rattle.double_settings.specs.declared.parts.Channel.TheVariants.{Local, Remote1, Remote2}
use Rattle.double_settings.specs.declared.parts.Fan.{Fan}
use Rattle.double_settings.specs.declared.parts.FanSource.TheVariants.{Missing, Fault, Tach, HotPlug}
use Rattle.double_settings.specs.declared.parts.Source.{Source}
use Rattle.double_settings.specs.declared.parts.Source.TheVariants.{OfFan, Temperature}
use Rattle.double_settings.proofs.PowerOn.{all_fit_lem, any_strap}
use Rattle.registers.specs.Roles.{is_setting}
use Rattle.registers.proofs.Laws.{Settable, first_again, setting_present, setting_settable, stored_at, written_again}
use Rattle.std.proofs.lemmas.Bool.{true≢false}
use Rattle.unit.specs.Order.{Again, Faithful, Order}
use Rattle.unit.proofs.Limits.{above_more}
use Rattle.own.proofs.Hotter.{hotter_fresh, hotter_loop, hotter_tach}
use Rattle.own.specs.State.{HotterOwn, OwnState}
use Rattle.double.specs.Base.{base_by, driven_level, is_driven, loops_level}
use Rattle.double.specs.Kinds.{double}
use Rattle.double.specs.Own.{reported_by}
use Rattle.double.specs.Sources.{is_temperature, said}

fails_more : (s : ℕ → ℕ) (v w : ℤ) → v ≤ℤ w → (o : Option Source) → T (said false (λ x. int_lt (limit_of s x) v) o) → T (said false (λ x. int_lt (limit_of s x) w) o)
fails_more s v w le None h = absurd h
fails_more s v w le (Some x) h = above_more (limit_of s x) v w le h

module _ (s : ℕ → ℕ) (a b : OwnState) (hotter : HotterOwn a b) where
  -- a report of one source, by which it is
  hotter_reported : (v w : ℤ) (o : Option Source) → cond (said false is_temperature o) (v ≤ℤ w) (T (said false (λ x. int_lt (limit_of s x) v) o) → T (said false (λ x. int_lt (limit_of s x) w) o)) → HotterOwn (said a (reported_by s a v) o) (said b (reported_by s b w) o)
  hotter_reported v w None mild = hotter
  hotter_reported v w (Some (OfFan f Missing)) mild = hotter
  hotter_reported v w (Some (OfFan f Fault)) mild = hotter
  hotter_reported v w (Some (OfFan f Tach)) mild = hotter_tach a b hotter (fan_index f) (unsigned_abs v) (unsigned_abs w)
  hotter_reported v w (Some (OfFan f HotPlug)) mild = hotter
  hotter_reported v w (Some (Temperature c)) mild = hotter_loop a b hotter (warmer_heard (hotter (channel_index c)) (start_at s c) (hysteresis_at s c) v w mild) (channel_index c)

  driven_more : (f : Fan) (c : Channel) → driven_level s a f c ≤ driven_level s b f c
  driven_more f c = while (drives s c f) (warmer_level (hotter (channel_index c)) (start_at s c) (degrees (code_at s c)) (minimum s f) (omega arith))
    where
      while : (t : Bool) {m n : ℕ} → m ≤ n → cond t m 0 ≤ cond t n 0
      while true le = le
      while false le = omega arith

  base_more : (p : ℕ) (f : Fan) → base_by p s a f ≤ base_by p s b f
  base_more p f = choose (monitoring s) (is_automatic p && is_driven s f) (omega (arith, driven_more f Local, driven_more f Remote1, driven_more f Remote2))
    where
      choose : (m d : Bool) → loops_level s a f ≤ loops_level s b f → cond m (cond d (loops_level s a f) (minimum s f)) (alarm_level s f) ≤ cond m (cond d (loops_level s b f) (minimum s f)) (alarm_level s f)
      choose true true le = le
      choose true false le = omega arith
      choose false d le = omega arith

  bases_more : (p : ℕ) (o : Option Fan) → said 0 (base_by p s a) o ≤ said 0 (base_by p s b) o
  bases_more p None = omega arith
  bases_more p (Some f) = base_more p f

pub ordered : Order double
ordered = record {
  fresh = hotter_fresh;
  fails = λ s n v w warm le h. fails_more s v w le (source_at n) h;
  reported = λ s a b h n v w within mild. hotter_reported s a b h v w (source_at n) mild;
  base = λ p s a b h f. bases_more s a b h p (fan_at f);
}

-- a report of a source that is no temperature changes no loop
cold_base : (p : ℕ) (s : ℕ → ℕ) (a : OwnState) (v : ℤ) (f : ℕ) (o : Option Source) → said false is_temperature o ≡ false → said 0 (base_by p s (said a (reported_by s a v) o)) (fan_at f) ≡ said 0 (base_by p s a) (fan_at f)
cold_base p s a v f None e = refl
cold_base p s a v f (Some (OfFan g Missing)) e = refl
cold_base p s a v f (Some (OfFan g Fault)) e = refl
cold_base p s a v f (Some (OfFan g Tach)) e = refl
cold_base p s a v f (Some (OfFan g HotPlug)) e = refl
cold_base p s a v f (Some (Temperature c)) e = absurd (true≢false e)

again : {r b : ℕ} → Settable (role_at r) b → Again double r b
again is = record { byte = is.byte; served = is.served; same = is.same }

pub faithful : Faithful double
faithful = record {
  fans = omega arith;
  sources = omega arith;
  cold = λ p s a n v f e. cold_base p s a v f (source_at n) e;
  present = λ r h. setting_present (role_at r) h;
  settable = λ r h. setting_settable (role_at r) h;
  stored = λ s r b q e. stored_at (role_at r) s r b q;
  fresh = λ p r h. again (subst (λ o. Settable o (power_on_byte p r)) (any_strap p r) (first_again (rows p) r (all_fit_lem p) (subst (λ o. T (is_setting o)) (sym (any_strap p r)) h)));
  written = λ r b small h served. again (written_again (role_at r) b small h served);
}

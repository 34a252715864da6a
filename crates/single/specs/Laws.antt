-- What the single unit shows of its kind.
use Rattle.std.specs.Prelude.{◌≡◌, ℕ, ◌≤◌, max, Bool, true, false, cond, ◌||◌, T, ℤ, ◌≤ℤ◌, ◌==◌, int_lt, unsigned_abs, refl}
use Rattle.std.proofs.Common.{arith}
use Rattle.std.proofs.lemmas.Bool.{true≢false}
use Rattle.control.specs.Range.{degrees}
use Rattle.control.proofs.Warmth.{warmer_heard, warmer_level}
use Rattle.own.specs.State.{HotterOwn, OwnState, with_tach}
use Rattle.own.proofs.Hotter.{hotter_fresh, hotter_loop, hotter_tach}
use Rattle.registers.proofs.Laws.{Settable, first_again, setting_present, setting_settable, written_again}
use Rattle.unit.specs.Order.{Again, Faithful, NoMilder, Order}
use Rattle.unit.proofs.Limits.{above_more}
use Rattle.single.specs.declared.source.Channel.{Channel}
use Rattle.single.specs.declared.source.Channel.TheVariants.{Local, Remote}
use Rattle.single.specs.Kinds.{base_from, level_from, reported_to, single, with_temperature}
use Rattle.single.specs.Registers.{role_at, rows}
use Rattle.single.specs.Settings.{code_at, limit, minimum, monitoring, start_at}
use Rattle.single.specs.Sources.{channel_index}
use Rattle.single.specs.Written.{stored}

greater_more : (t : Bool) (a b c d : ℕ) → a ≤ c → b ≤ d → cond t (max a b) 255 ≤ cond t (max c d) 255
greater_more true a b c d h k = omega arith
greater_more false a b c d h k = omega arith

minimum_fits : (s : ℕ → ℕ) → minimum s ≤ 255
minimum_fits s = omega arith

module _ (s : ℕ → ℕ) (a b : OwnState) (hotter : HotterOwn a b) where
  level_more : (c : Channel) → level_from s c (a.loops (channel_index c)) ≤ level_from s c (b.loops (channel_index c))
  level_more c = warmer_level (hotter (channel_index c)) (start_at s c) (degrees (code_at s c)) (minimum s) (minimum_fits s)

  base_more : base_from s a ≤ base_from s b
  base_more = greater_more (monitoring s) _ _ _ _ (level_more Local) (level_more Remote)

  hotter_temperature : (c : Channel) (v w : ℤ) → v ≤ℤ w → HotterOwn (with_temperature s a c v) (with_temperature s b c w)
  hotter_temperature c v w le = hotter_loop a b hotter (warmer_heard (hotter (channel_index c)) (start_at s c) 5 v w le) (channel_index c)

  -- a report of one source, by cases on which
  hotter_reported : (n : ℕ) (v w : ℤ) → NoMilder single s n v w → HotterOwn (reported_to s a n v) (reported_to s b n w)
  hotter_reported n v w mild = by_source (n == 0) (n == 1) (n == 2) mild
    where
      by_source : (t l r : Bool) → cond (l || r) (v ≤ℤ w) (T (int_lt (limit s n) v) → T (int_lt (limit s n) w)) → HotterOwn (cond t (with_tach a 0 (unsigned_abs v)) (cond l (with_temperature s a Local v) (cond r (with_temperature s a Remote v) a))) (cond t (with_tach b 0 (unsigned_abs w)) (cond l (with_temperature s b Local w) (cond r (with_temperature s b Remote w) b)))
      by_source true l r m = hotter_tach a b hotter 0 (unsigned_abs v) (unsigned_abs w)
      by_source false true r m = hotter_temperature Local v w m
      by_source false false true m = hotter_temperature Remote v w m
      by_source false false false m = hotter

pub ordered : Order single
ordered = record {
  fresh = hotter_fresh;
  fails = λ s n v w warm le h. above_more (limit s n) v w le h;
  reported = λ s a b h n v w within mild. hotter_reported s a b h n v w mild;
  base = λ p s a b h f. base_more s a b h;
}

-- a report of a source that is no temperature leaves the loops as they are
cold_base : (s : ℕ → ℕ) (a : OwnState) (v : ℤ) (t l r : Bool) → (l || r) ≡ false → base_from s (cond t (with_tach a 0 (unsigned_abs v)) (cond l (with_temperature s a Local v) (cond r (with_temperature s a Remote v) a))) ≡ base_from s a
cold_base s a v true l r e = refl
cold_base s a v false true r e = absurd (true≢false e)
cold_base s a v false false true e = absurd (true≢false e)
cold_base s a v false false false e = refl

again : {r b : ℕ} → Settable (role_at r) b → Again single r b
again is = record { byte = is.byte; served = is.served; same = is.same }

pub faithful : Faithful single
faithful = record {
  fans = omega arith;
  sources = omega arith;
  cold = λ p s a n v f e. cold_base s a v (n == 0) (n == 1) (n == 2) e;
  present = λ r h. setting_present (role_at r) h;
  settable = λ r h. setting_settable (role_at r) h;
  stored = λ s r b q e. stored s r b q e;
  fresh = λ p r h. again (first_again rows r tt h);
  written = λ r b small h served. again (written_again (role_at r) b small h served);
}

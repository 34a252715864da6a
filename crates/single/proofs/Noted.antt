-- A report of a temperature goes to the loop of its channel.
use Rattle.std.proofs.Common.{◌≡◌, ℕ, ◌+◌, ℤ, refl}
use Rattle.own.specs.State.{OwnState}
use Rattle.single.specs.declared.source.Channel.{Channel}
use Rattle.single.specs.declared.source.Channel.TheVariants.{Local, Remote}
use Rattle.single.specs.Kinds.{reported_to, with_temperature}
use Rattle.single.specs.Sources.{channel_index}

pub to_channel : (s : ℕ → ℕ) (o : OwnState) (c : Channel) (v : ℤ) → reported_to s o (1 + channel_index c) v ≡ with_temperature s o c v
to_channel s o Local v = refl
to_channel s o Remote v = refl

use Rattle.std.proofs.Common.{refl}
use Rattle.packet_kinds.proofs.items_out.options.Goals as goal

pub returns : goal.returns
returns c = rw (c.in_ok-push.ensures.ok, c.new-pairs.ensures, c.in_ok-value.ensures, c.new.ensures, c.in_ok-from_slice.ensures.items, c.format_name.ensures) refl

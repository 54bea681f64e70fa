use Rattle.window_source.proofs.LawsLemmas.{damage_is, unmap_is, giving_back_is, acknowledgement_is, capture_is, resize_is}
use Rattle.window_source.proofs.laws.calls_are_the_models_events.Goals as goal

pub returns : goal.returns
returns c = record {
  damage = damage_is;
  unmap = unmap_is;
  give_back = giving_back_is;
  acknowledge = acknowledgement_is;
  capture = capture_is;
  resize = resize_is;
}

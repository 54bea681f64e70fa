-- What a result is to a source, as the code says it.
use Rattle.delivery_model.specs.Events.{Filing, Late, Foreign, Filed}
use Rattle.window_source.specs.declared.standing.Standing.{Standing}
use Rattle.window_source.specs.declared.standing.Standing.TheVariants as S

abbrev pub standing_of : Filing → Standing
standing_of Late = S.Late
standing_of Foreign = S.Foreign
standing_of Filed = S.Own

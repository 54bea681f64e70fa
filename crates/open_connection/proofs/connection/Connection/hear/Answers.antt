use Rattle.std.proofs.Common.{refl, ap}
use Rattle.std.specs.Option.{option_map}
use Rattle.packet_frames.specs.Following.{fed}
use Rattle.attached_client.specs.Acting.{acts}
use Rattle.attached_client.specs.Client.{client_in}
use Rattle.open_connection.specs.Connection.{OpenSeen}
use Rattle.open_connection.proofs.Hearings.{nothing_taken}
use Rattle.open_connection.proofs.connection.Connection.hear.Goals as goal

pub returns-then-is_err : goal.returns-then-is_err
returns-then-is_err c = (0, refl, nothing_taken (acts c.args.desk.now c.args.conn.0 c.args.now) (fed c.args.self.now.framing c.args.piece.now) _ _ (ap (λ (s : OpenSeen). option_map client_in s.client) c.self.view_is))

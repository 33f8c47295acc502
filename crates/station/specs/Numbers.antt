-- The number of each refusal.
use Rattle.std.specs.Prelude.{ℕ}
use Rattle.station.specs.declared.refusals.ReceiveRefusal.{ReceiveRefusal}
use Rattle.station.specs.declared.refusals.ReceiveRefusal.TheVariants as receive
use Rattle.station.specs.declared.refusals.SendRefusal.{SendRefusal}
use Rattle.station.specs.declared.refusals.SendRefusal.TheVariants as send

abbrev pub receive_number : ReceiveRefusal → ℕ
receive_number (receive.Unread fault) = 41
receive_number receive.NotOurs = 42

abbrev pub send_number : SendRefusal → ℕ
send_number send.CalledAddress = 31
send_number send.CallingAddress = 32
send_number send.DataLength = 33
send_number send.ProtocolClass = 34
send_number (send.NoWay cause) = 35
send_number send.TooManyPieces = 36
send_number send.NoFreeReference = 37
send_number send.TooFewPlaces = 38

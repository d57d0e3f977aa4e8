-- What reading a whole file gives, as the engine answers it.
use Rattle.std.specs.Prelude.{Result, Ok, Err}
use Rattle.network.specs.declared.Network.{Network}
use Rattle.network.specs.declared.Rows.{Rows}
use Rattle.network.specs.declared.Unread.{Unread}
use Rattle.network.specs.Engine.Stored.{net_of}
use Rattle.network.specs.Numbers.{number_of}
use Rattle.network.specs.Reading.{Reading, accepted, refused}

unfoldable pub reading_of : Result Network Unread → Reading
reading_of (Ok n) = accepted (net_of n.rows)
reading_of (Err u) = refused (number_of u.refusal.reason) u.refusal.place

-- The rows that it comes to, with a refusal too: what was read up to there
unfoldable pub rows_read : Result Network Unread → Rows
rows_read (Ok n) = n.rows
rows_read (Err u) = u.rows

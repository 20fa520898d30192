-- The tables of the GPIO protocol have its records.
use Rattle.std.proofs.Common.{◌≢◌, None}
use Rattle.gb_formats.specs.GpioRecords.{GpioAsk, gpio_asks, gpio_ask_kind, gpio_ask_payload}
use Rattle.gb_formats.specs.GpioRecords.{GpioReply, gpio_replies, gpio_reply_kind}
use Rattle.gb_formats.specs.GpioRecords.{gpio_reply_payload}
use Rattle.gb_formats.specs.Records.{row_of}
use Rattle.gb_payload.proofs.Tables.{AreSpelt, is_row}

-- the rows of requests
pub gpio_asks_spelt : AreSpelt gpio_ask_kind gpio_ask_payload gpio_asks
gpio_asks_spelt = search parts 40

-- each of them has a row
pub gpio_asks_listed : (made : GpioAsk) → row_of gpio_asks (gpio_ask_kind made) ≢ None
gpio_asks_listed GpioAsk.LineCount = is_row _
gpio_asks_listed _ = is_row _

-- the rows of responses
pub gpio_replies_spelt : AreSpelt gpio_reply_kind gpio_reply_payload gpio_replies
gpio_replies_spelt = search parts 40

-- each of them has a row
pub gpio_replies_listed : (made : GpioReply) → row_of gpio_replies (gpio_reply_kind made) ≢ None
gpio_replies_listed (GpioReply.LineCount last) = is_row _
gpio_replies_listed _ = is_row _

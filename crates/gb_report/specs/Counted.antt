-- The counts of a summary.
use Rattle.gb_formats.specs.ShowTexts.{Counts}
use Rattle.gb_report.specs.declared.summary.Counts as declared

-- The counts that the code's struct tells.
abbrev pub counts_of : declared.Counts → Counts
counts_of c =
    record {
      refused = c.refused;
      requests = c.requests;
      answered = c.answered;
      cancelled = c.cancelled;
      timeout = c.timeout;
      disconnected = c.disconnected;
      sent = c.sent;
      left_open = c.left_open;
    }

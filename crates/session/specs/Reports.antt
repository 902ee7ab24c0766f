-- What a day comes to.
use Rattle.session.specs.declared.report.Report.{Report}

abbrev pub empty_day : Report
empty_day = record { orders = 0; accepted = 0; done = 0; out = 0; left = 0 }

-- Dates and times of day in UTC, as they are printed.
use Rattle.std.specs.Prelude.{ℕ, ◌/◌, ◌%◌, List, ◌++◌, codes, decimal, unsigned_abs}
use Rattle.mq_format.specs.declared.moment.Moment.{Moment}
use Rattle.mq_format.specs.declared.moment.TimeField.{TimeField}
use Rattle.mq_format.specs.declared.moment.TimeField.TheVariants as times
use Rattle.mq_format.specs.Layout.{with_zeros}

-- the year in four digits
abbrev pub year_text : Moment → List ℕ
year_text moment = with_zeros 4 (unsigned_abs moment.day.year)

-- the date, as 2026-11-28
abbrev pub date_text : Moment → List ℕ
date_text moment =
    year_text moment
    ++ (codes "-" ++ (with_zeros 2 moment.day.month ++ (codes "-" ++ with_zeros 2 moment.day.day)))

-- the hour, the minute and the second of the day
abbrev pub hour_of : Moment → ℕ
hour_of moment = moment.seconds / 3600 % 24

abbrev pub minute_of : Moment → ℕ
minute_of moment = moment.seconds / 60 % 60

abbrev pub second_of : Moment → ℕ
second_of moment = moment.seconds % 60

-- the time of day, as 08:00:47
abbrev pub clock_text : Moment → List ℕ
clock_text moment =
    with_zeros 2 (hour_of moment)
    ++ (codes ":" ++ (with_zeros 2 (minute_of moment) ++ (codes ":" ++ with_zeros 2 (second_of moment))))

-- both, as 2026-11-28T08:00:47
abbrev pub instant_text : Moment → List ℕ
instant_text moment = date_text moment ++ (codes "T" ++ clock_text moment)

-- the seconds since 1970 with nine decimals
abbrev pub unix_text : Moment → List ℕ
unix_text moment = decimal moment.seconds ++ (codes "." ++ with_zeros 9 moment.nanoseconds)

-- what `@` and a letter print
abbrev pub time_text : Moment → TimeField → List ℕ
time_text moment times.At = codes "@"
time_text moment times.Year = year_text moment
time_text moment times.Month = with_zeros 2 moment.day.month
time_text moment times.Day = with_zeros 2 moment.day.day
time_text moment times.Hour = with_zeros 2 (hour_of moment)
time_text moment times.Minute = with_zeros 2 (minute_of moment)
time_text moment times.Second = with_zeros 2 (second_of moment)
time_text moment times.Date = date_text moment
time_text moment times.Clock = clock_text moment
time_text moment times.Seconds = decimal moment.seconds
time_text moment times.Nanoseconds = with_zeros 9 moment.nanoseconds
time_text moment times.Zone = codes "+0000"

-- "Numbers a caller may see": the number of each refusal. 0 is no refusal: accepted.
use Rattle.std.specs.Prelude.{ℕ}
use Rattle.refusals.specs.declared.Refusal.{Refusal}
use Rattle.refusals.specs.declared.Refusal.TheVariants.{Tasks, Speeds, Period, Reserve, Speed, Volts, GreatPeriod, NotAdmitted, Unsound, RunDone, Length, NoSpeed, Entry, NoRunFile}

abbrev pub number_of : Refusal → ℕ
number_of Tasks = 1
number_of Speeds = 2
number_of Period = 3
number_of Reserve = 4
number_of Speed = 5
number_of Volts = 6
number_of GreatPeriod = 7
number_of NotAdmitted = 8
number_of Unsound = 9
number_of RunDone = 10
number_of Length = 11
number_of NoSpeed = 12
number_of Entry = 13
number_of NoRunFile = 14

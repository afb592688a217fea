-- Document 01, "Either side of the line": (a) to (l), one list of rows and one test over it.
use Rattle.std.specs.Prelude.{ℕ, ◌≡◌, true, cond, List, [], ◌∷◌, map, eqb, take}
use Rattle.rules.specs.declared.State.{State}
use Rattle.rules.specs.Words.{every}
use Rattle.rules.specs.Choice.{load_of}
use Rattle.rules.specs.Admission.{great_of}
use Rattle.promises.specs.Runs.{Table, started, after}

-- the printed run: document 002's Tables 2 and 3, and the reports of its end lines
unfoldable pub paper_table : Table
paper_table = record { periods = 8 ∷ 10 ∷ 14 ∷ []; reserves = 300 ∷ 300 ∷ 100 ∷ []; speeds = 50 ∷ 75 ∷ 100 ∷ []; volts = 30 ∷ 40 ∷ 50 ∷ [] }

unfoldable pub reports : List (List ℕ)
reports =
    (0 ∷ 0 ∷ 0 ∷ [])
    ∷ (0 ∷ 0 ∷ 0 ∷ [])
    ∷ (200 ∷ 0 ∷ 0 ∷ [])
    ∷ (0 ∷ 100 ∷ 0 ∷ [])
    ∷ (0 ∷ 0 ∷ 0 ∷ [])
    ∷ (0 ∷ 0 ∷ 100 ∷ [])
    ∷ (0 ∷ 0 ∷ 0 ∷ [])
    ∷ (0 ∷ 0 ∷ 0 ∷ [])
    ∷ (0 ∷ 0 ∷ 0 ∷ [])
    ∷ (100 ∷ 0 ∷ 0 ∷ [])
    ∷ (0 ∷ 0 ∷ 0 ∷ [])
    ∷ (0 ∷ 100 ∷ 0 ∷ [])
    ∷ (0 ∷ 0 ∷ 0 ∷ [])
    ∷ (0 ∷ 0 ∷ 0 ∷ [])
    ∷ []

-- the state at tick t of that run, and its load where t ticks were accepted
unfoldable pub state_at : ℕ → State
state_at t =
    after (started paper_table).state (map (λ r. record { report = r; grants = 0 ∷ 0 ∷ 0 ∷ [] }) (take t reports))

unfoldable pub load_at : ℕ → ℕ
load_at t = cond (eqb (state_at t).done.0 t) (load_of (state_at t)) 0

-- start's number for a table with one speed, at 1 tenth of a volt
unfoldable pub number_of : List ℕ → List ℕ → ℕ → ℕ
number_of ps cs s = (started (record { periods = ps; reserves = cs; speeds = s ∷ []; volts = 1 ∷ [] })).number

-- each row: what the definitions give, and what the document says
unfoldable pub rows : List (ℕ × ℕ)
rows =
    -- (a) periods 8, 10, 14: H 280
    (great_of (8 ∷ 10 ∷ 14 ∷ []), 280)
    -- (b) to (h) loads in the run at ticks 0, 3, 4, 8, 10, 12, 14
    ∷ (load_at 0, 20_900)
    ∷ (load_at 3, 17_400)
    ∷ (load_at 4, 11_800)
    ∷ (load_at 8, 15_300)
    ∷ (load_at 10, 13_900)
    ∷ (load_at 12, 8_300)
    ∷ (load_at 14, 8_300)
    -- (i) period 1, reserve 50, one speed 50: admitted; (j) reserve 51: 8
    ∷ (number_of (1 ∷ []) (50 ∷ []) 50, 0)
    ∷ (number_of (1 ∷ []) (51 ∷ []) 50, 8)
    -- (k) periods 1,000 and 1,001: H 1,001,000, so 7
    ∷ (great_of (1_000 ∷ 1_001 ∷ []), 1_001_000)
    ∷ (number_of (1_000 ∷ 1_001 ∷ []) (1 ∷ 1 ∷ []) 1, 7)
    -- (l) periods 1,000 and 1,000,000: H 1,000,000, passes 7
    ∷ (great_of (1_000 ∷ 1_000_000 ∷ []), 1_000_000)
    ∷ (number_of (1_000 ∷ 1_000_000 ∷ []) (1 ∷ 1 ∷ []) 1, 0)
    ∷ []

-- Every row is as the document says.
unfoldable pub EitherSideOfTheLine : Type 0
EitherSideOfTheLine = every (λ (row : ℕ × ℕ). eqb row.0 row.1) rows ≡ true

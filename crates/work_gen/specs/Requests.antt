-- The bank's program and its requests: 200 accounts are opened with 100 each, and then each request moves money.
use Rattle.std.specs.Prelude.{ℕ, zero, suc, ◌+◌, ◌%◌, List, [], ◌∷◌, ◌++◌, if◌then◌else◌, nat_lt, codes, decimal}
use Rattle.std.specs.List.{concat}
use Rattle.work_gen.specs.declared.requests.Transfer.{Transfer}
use Rattle.work_gen.specs.Draws.{next_number, drawn}

unfoldable pub program : List ℕ
program = codes "from stateflow import entity\n\n\n@entity\nclass Account:\n    def __init__(self, name: str, balance: int):\n        self.name: str = name\n        self.balance: int = balance\n\n    def __key__(self):\n        return self.name\n\n    def take(self, amount: int) -> None:\n        self.balance += amount\n\n    def give(self, amount: int, to: 'Account') -> bool:\n        if to == self or self.balance < amount:\n            return False\n        to.take(amount)\n        self.balance -= amount\n        return True\n"

-- the request of this number opens the account of this number
abbrev pub opening : ℕ → List ℕ
opening number = concat (codes "{\"id\":\"g" ∷ decimal number ∷ codes "\",\"class\":\"Account\",\"new\":[\"a" ∷ decimal number ∷ codes "\",100]}\n" ∷ [])

-- what is moved where the generator stands here: three numbers are drawn
abbrev pub transfer : ℕ → Transfer
transfer x = record { from = 1 + drawn x % 200; to = 1 + drawn (next_number x) % 200; amount = 1 + drawn (next_number (next_number x)) % 10 }

abbrev pub behind : ℕ → ℕ
behind x = next_number (next_number (next_number x))

-- a request that moves money, where the digits of its numbers are given
abbrev pub giving_line : List ℕ → List ℕ → List ℕ → List ℕ → List ℕ
giving_line number from amount to =
    concat
    (codes "{\"id\":\"g" ∷ number ∷ codes "\",\"class\":\"Account\",\"key\":\"a" ∷ from ∷ codes "\",\"method\":\"give\",\"args\":["
    ∷ amount ∷ codes ",\"a" ∷ to ∷ codes "\"]}\n" ∷ [])

-- the request of this number moves so much
abbrev pub giving : ℕ → Transfer → List ℕ
giving number t = giving_line (decimal number) (decimal t.from) (decimal t.amount) (decimal t.to)

-- the line of the request of this number, and where the generator stands after it
abbrev pub line : ℕ → ℕ → List ℕ
line number x = if nat_lt 200 number then giving number (transfer x) else opening number

abbrev pub after : ℕ → ℕ → ℕ
after number x = if nat_lt 200 number then behind x else x

-- the lines of so many requests from this number on
unfoldable pub requests : ℕ → ℕ → ℕ → List ℕ
requests zero number x = []
requests (suc n) number x = line number x ++ requests n (number + 1) (after number x)

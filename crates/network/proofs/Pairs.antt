-- Two facts as one, so that antt finds the type of the pair.

pub both : {A B : Type 0} → A → B → A × B
both a b = (a, b)

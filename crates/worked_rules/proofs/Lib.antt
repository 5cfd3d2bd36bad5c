mod RaisedNumbers
